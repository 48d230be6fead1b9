-- How many blocks are open, and which faults the open blocks give.
use Rattle.std.proofs.Common.{◌≡◌, ℕ, ◌+◌, cond, List, [], ◌∷◌, length, Result, Ok, Err, refl, arith}
use Rattle.std.proofs.lemmas.List.Sums.{sum_by-cons}
use Rattle.rt_base.specs.declared.data.FaultKind.{FaultKind}
use Rattle.rt_base.specs.declared.data.FaultKind.TheVariants as fault
use Rattle.task_tree.specs.declared.tree.What.{What}
use Rattle.task_tree.specs.declared.tree.What.TheVariants as what
use Rattle.task_tree.specs.declared.tree.Stmt.{Stmt}
use Rattle.task_tree.specs.Reading.{◌>>=◌}
use Rattle.task_tree.specs.Blocks.{is_main, stands}
use Rattle.task_parse.specs.declared.block.OpenBlock.{OpenBlock}
use Rattle.task_parse.specs.declared.block.OpenBlock.TheVariants as block
use Rattle.task_parse.specs.Trees.{opens, ends, opening, ending}
use Rattle.task_parse.specs.Openings.{spot, is_head, opened, with_task, parted, ended, accessed, begun, passed, placed, is_too_deep, run}
use Rattle.task_parse.proofs.Fronts.{chosen}

-- what was read opened as many more blocks as it says, and a fault of the place is `Place`
abbrev Fits : List OpenBlock → ℕ → ℕ → Result (List OpenBlock) FaultKind → Type 0
Fits blocks more less (Ok behind) = length behind + less ≡ length blocks + more
Fits blocks more less (Err kind) = kind ≡ fault.Place

opened_fits : (inner : OpenBlock) (blocks : List OpenBlock) → Fits blocks 1 0 (opened inner blocks)
opened_fits inner blocks = chosen (Fits blocks 1 0) (is_head blocks) _ _ (λ _. refl) (λ _. omega arith)

task_fits : (blocks : List OpenBlock) → Fits blocks 1 0 (with_task blocks)
task_fits blocks = chosen (Fits blocks 1 0) (is_main (spot blocks)) _ _ (λ _. omega arith) (λ _. refl)

parted_fits : (blocks : List OpenBlock) → Fits blocks 0 0 (parted blocks)
parted_fits [] = refl
parted_fits (block.Loop ∷ around) = refl
parted_fits (block.When ∷ around) = refl
parted_fits (block.Otherwise ∷ around) = refl
parted_fits (block.Head ∷ around) = refl
parted_fits (block.Body ∷ around) = refl

ended_fits : (blocks : List OpenBlock) → Fits blocks 0 1 (ended blocks)
ended_fits [] = refl
ended_fits (block.Loop ∷ around) = omega arith
ended_fits (block.When ∷ around) = omega arith
ended_fits (block.Otherwise ∷ around) = omega arith
ended_fits (block.Head ∷ around) = refl
ended_fits (block.Body ∷ around) = omega arith

accessed_fits : (blocks : List OpenBlock) → Fits blocks 0 0 (accessed blocks)
accessed_fits blocks = chosen (Fits blocks 0 0) (is_head blocks) _ _ (λ _. refl) (λ _. refl)

begun_fits : (blocks : List OpenBlock) → Fits blocks 0 0 (begun blocks)
begun_fits [] = refl
begun_fits (block.Loop ∷ around) = refl
begun_fits (block.When ∷ around) = refl
begun_fits (block.Otherwise ∷ around) = refl
begun_fits (block.Head ∷ around) = refl
begun_fits (block.Body ∷ around) = refl

passed_fits : (said : What) (blocks : List OpenBlock) → Fits blocks 0 0 (passed said blocks)
passed_fits said blocks =
    chosen (Fits blocks 0 0) (is_head blocks) _ _ (λ _. refl) (λ _. chosen (Fits blocks 0 0) (stands (spot blocks) said) _ _ (λ _. refl) (λ _. refl))

pub placed_fits : (said : What) (blocks : List OpenBlock) → Fits blocks (cond (opens said) 1 0) (cond (ends said) 1 0) (placed said blocks)
placed_fits (what.Array name len) blocks = passed_fits (what.Array name len) blocks
placed_fits (what.Show name) blocks = passed_fits (what.Show name) blocks
placed_fits (what.Comm name) blocks = passed_fits (what.Comm name) blocks
placed_fits (what.Let name value) blocks = passed_fits (what.Let name value) blocks
placed_fits (what.For name from to) blocks = opened_fits block.Loop blocks
placed_fits (what.If test) blocks = opened_fits block.When blocks
placed_fits what.Else blocks = parted_fits blocks
placed_fits what.End blocks = ended_fits blocks
placed_fits what.Taskwait blocks = passed_fits what.Taskwait blocks
placed_fits what.Task blocks = task_fits blocks
placed_fits (what.Touch mode span) blocks = accessed_fits blocks
placed_fits what.Do blocks = begun_fits blocks
placed_fits (what.Kern kernel spans values) blocks = passed_fits (what.Kern kernel spans values) blocks
placed_fits (what.Posting how handle span peer tag comm status) blocks = passed_fits (what.Posting how handle span peer tag comm status) blocks
placed_fits (what.Waiting later handles status) blocks = passed_fits (what.Waiting later handles status) blocks

-- the only fault of a place
fault_of : (blocks : List OpenBlock) (more less : ℕ) (read : Result (List OpenBlock) FaultKind) (kind : FaultKind) → Fits blocks more less read
    → read ≡ Err kind → kind ≡ fault.Place
fault_of blocks more less (Ok behind) kind f e = absurd cc
fault_of blocks more less (Err other) kind f e = cc

pub place_fault : (said : What) (blocks : List OpenBlock) (kind : FaultKind) → placed said blocks ≡ Err kind → kind ≡ fault.Place
place_fault said blocks kind e = fault_of blocks _ _ (placed said blocks) kind (placed_fits said blocks) e

-- the blocks that are open are those that were opened and not ended
abbrev Counted : List OpenBlock → List Stmt → Result (List OpenBlock) FaultKind → Type 0
Counted blocks stmts (Ok behind) = length behind + ending stmts ≡ length blocks + opening stmts
Counted blocks stmts (Err kind) = Unit {0}

one_counted : (blocks behind : List OpenBlock) (s : Stmt) (stmts : List Stmt) (read : Result (List OpenBlock) FaultKind)
    → length behind + cond (ends s.what) 1 0 ≡ length blocks + cond (opens s.what) 1 0 → Counted behind stmts read → Counted blocks (s ∷ stmts) read
one_counted blocks behind s stmts (Ok last) one c =
    let less : ending (s ∷ stmts) ≡ cond (ends s.what) 1 0 + ending stmts = sum_by-cons (λ x. cond (ends x.what) 1 0) s stmts in
    let more : opening (s ∷ stmts) ≡ cond (opens s.what) 1 0 + opening stmts = sum_by-cons (λ x. cond (opens x.what) 1 0) s stmts in
    omega (arith, one, c, less, more)
one_counted blocks behind s stmts (Err kind) one c = tt

step_counted : (blocks : List OpenBlock) (s : Stmt) (stmts : List Stmt) (read : Result (List OpenBlock) FaultKind)
    → Fits blocks (cond (opens s.what) 1 0) (cond (ends s.what) 1 0) read
    → ((behind : List OpenBlock) → Counted behind stmts (run behind stmts)) → Counted blocks (s ∷ stmts) (read >>= λ behind. run behind stmts)
step_counted blocks s stmts (Ok behind) f more = one_counted blocks behind s stmts (run behind stmts) f (more behind)
step_counted blocks s stmts (Err kind) f more = tt

counted : (stmts : List Stmt) (blocks : List OpenBlock) → Counted blocks stmts (run blocks stmts)
counted [] blocks = refl
counted (s ∷ stmts) blocks =
    chosen (λ read. Counted blocks (s ∷ stmts) (read >>= λ behind. run behind stmts)) (is_too_deep 0 s.what blocks) (Err fault.Depth) (placed s.what blocks)
    (λ _. tt)
    (λ _. step_counted blocks s stmts (placed s.what blocks) (placed_fits s.what blocks) (λ behind. counted stmts behind))

pub open_count : (stmts : List Stmt) (blocks : List OpenBlock) → run [] stmts ≡ Ok blocks → length blocks + ending stmts ≡ opening stmts
open_count stmts blocks e = let c : length blocks + ending stmts ≡ 0 + opening stmts = rw e at (counted stmts []) in omega (arith, c)
