-- Where blocks end.
use Rattle.std.proofs.Common.{◌≡◌, ℕ, suc, ◌+◌, ◌≤◌, true, List, [], ◌∷◌, ◌++◌, map, length, drop, Option, Some, None, refl, ap, ◌∙◌, arith}
use Rattle.std.proofs.lemmas.List.{length-append, append_assoc}
use Rattle.std.proofs.Math.ListN.{length-drop}
use Rattle.task_tree.specs.declared.tree.Stmt.{Stmt}
use Rattle.task_tree.specs.declared.tree.What.{What}
use Rattle.task_tree.specs.declared.tree.What.TheVariants as what
use Rattle.task_tree.specs.Blocks.{Block, Block as block, AccessLine, is_plain, access_stmt, written}
use Rattle.task_unroll.proofs.PlaceLemmas.{behind}
use Rattle.task_unroll.specs.Ends.{Mark as mark_is, mark, deeper, or_more, skipped, close_of}

-- no more is skipped than there is
or_more-within : (next : Option ℕ) (more : ℕ → ℕ) (n : ℕ) → ((depth : ℕ) → more depth ≤ n) → or_more next more ≤ suc n
or_more-within None more n h = omega arith
or_more-within (Some depth) more n h = omega (arith, h depth)

skipped-within : (stmts : List Stmt) (depth : ℕ) → skipped depth stmts ≤ length stmts
skipped-within [] depth = omega arith
skipped-within (s ∷ rest) depth = or_more-within (deeper (mark s.what) depth) (λ next. skipped next rest) (length rest) (skipped-within rest)

pub end_within : (stmts : List Stmt) (place : ℕ) → place ≤ length stmts → close_of stmts place ≤ length stmts
unfolding close_of
end_within stmts place h = omega (arith, skipped-within (drop place stmts) 0, length-drop place stmts)

-- a statement that is a line by itself leaves each block open
pub plain_stays : (said : What) → is_plain said ≡ true → mark said ≡ mark_is.Stays
plain_stays (what.Array name len) h = refl
plain_stays (what.Show name) h = refl
plain_stays (what.Comm name) h = refl
plain_stays (what.Let name value) h = refl
plain_stays (what.For name from to) h = absurd (cc)
plain_stays (what.If test) h = absurd (cc)
plain_stays what.Else h = absurd (cc)
plain_stays what.End h = absurd (cc)
plain_stays what.Taskwait h = refl
plain_stays what.Task h = absurd (cc)
plain_stays (what.Touch mode span) h = absurd (cc)
plain_stays what.Do h = absurd (cc)
plain_stays (what.Kern kernel spans values) h = refl
plain_stays (what.Posting how handle span peer tag comm status) h = refl
plain_stays (what.Waiting later handles status) h = refl

-- these statements are skipped whole, and so many more blocks are open behind them as there were before
pub record IsSkipped (depth next : ℕ) (stmts : List Stmt) : Type 0 where
  pub whole : (more : List Stmt) → skipped depth (stmts ++ more) ≡ length stmts + skipped next more

one : {depth next last : ℕ} {s : Stmt} {stmts : List Stmt} → deeper (mark s.what) depth ≡ Some next → IsSkipped next last stmts
    → IsSkipped depth last (s ∷ stmts)
one {depth} {next} {last} {s} {stmts} h tail =
    record { whole = λ more. ap (λ n. or_more n (λ k. skipped k (stmts ++ more))) h ∙ omega (arith, tail.whole more) }

joined : {depth next last : ℕ} {front back : List Stmt} → IsSkipped depth next front → IsSkipped next last back → IsSkipped depth last (front ++ back)
joined {depth} {next} {last} {front} {back} h k =
    record { whole = λ more. ap (skipped depth) (append_assoc front back more) ∙ omega (arith, h.whole (back ++ more), k.whole more, length-append front back) }

-- the access lines of a task are skipped
skips_accesses : (depth : ℕ) (accesses : List AccessLine) → IsSkipped depth depth (map access_stmt accesses)
skips_accesses depth [] = record { whole = λ more. omega arith }
skips_accesses depth (access ∷ accesses) = one refl (skips_accesses depth accesses)

-- blocks that are written are skipped whole
pub skips : (depth : ℕ) (b : Block) → IsSkipped depth depth (written b)
skips depth block.Done = record { whole = λ more. omega arith }
skips depth (block.Plain line said plain rest) = one (ap (λ m. deeper m depth) (plain_stays said plain)) (skips depth rest)
skips depth (block.Loop line name from to body last rest) = one refl (joined (skips (suc depth) body) (one refl (skips depth rest)))
skips depth (block.When line test body last rest) = one refl (joined (skips (suc depth) body) (one refl (skips depth rest)))
skips depth (block.Choice line test body middle other last rest) =
    one refl (joined (skips (suc depth) body) (one refl (joined (skips (suc depth) other) (one refl (skips depth rest)))))
skips depth (block.Work line accesses middle body last rest) =
    one refl (joined (skips_accesses (suc depth) accesses) (one refl (joined (skips (suc depth) body) (one refl (skips depth rest)))))

-- a block that is written at a place, and what closes or parts it behind
pub closed_at : (stmts : List Stmt) (place : ℕ) (b : Block) (s : Stmt) (more : List Stmt) → deeper (mark s.what) 0 ≡ None
    → drop place stmts ≡ written b ++ (s ∷ more) → drop (close_of stmts place) stmts ≡ s ∷ more
unfolding close_of
closed_at stmts place b s more h e =
    ap (λ n. drop (place + n) stmts) (ap (skipped 0) e ∙ (skips 0 b).whole (s ∷ more) ∙ ap (λ n. length (written b) + or_more n (λ k. skipped k more)) h
    ∙ omega arith) ∙ behind stmts place (written b) (s ∷ more) e
