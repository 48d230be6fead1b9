-- The order of all matches of a history follows from that of its postings.
use Rattle.std.proofs.Common.{◌≡◌, ℕ, zero, suc, ◌<◌, Bool, true, false, cond, ◌⊎◌, List, [], ◌∷◌, ◌++◌, map, length, take, slice_get, Contains, Option, Some}
use Rattle.std.proofs.Common.{None, refl, sym, ap, ◌∙◌, subst, inl, inr, arith, append_assoc}
use Rattle.std.proofs.lemmas.List.{length-append, take-take}
use Rattle.std.proofs.lemmas.Option.{none-some, same_Some}
use Rattle.rt_base.specs.declared.data.ReqNo.{ReqNo}
use Rattle.rt_base.specs.declared.data.Op.{Op}
use Rattle.rt_base.specs.declared.data.TaskDef.{TaskDef}
use Rattle.rt_base.specs.declared.data.Entry.{Entry}
use Rattle.rt_base.specs.declared.data.Status.{Status}
use Rattle.rt_base.specs.declared.data.Program.{Program}
use Rattle.rt_base.specs.Operations.{request, nth_at, is_posting, given}
use Rattle.rt_base.specs.Exchange.{Exchange, Match}
use Rattle.rt_base.specs.State.{State, opening}
use Rattle.match_engine.specs.Laws.{Posted, sends, asks}
use Rattle.match_engine.specs.Order.{IsMatchAt, MatchesArePosted, MessagesKeepOrder, ReceivesKeepOrder}
use Rattle.match_engine.proofs.Standings.{target}
use Rattle.match_engine.proofs.Matched.{one_place, at_place}
use Rattle.task_machine.specs.Machine.{step}
use Rattle.task_machine.specs.Legal.{state_after, caller, callers, final, IsLegal}
use Rattle.history_laws.specs.Postings.{Place, call_in, posted_at, posted_in, posted_by_entry, cells_of_entry, postings_by_entry, postings_from, postings_of}
use Rattle.history_laws.specs.Order.{PostsAt, matches_of, EachMatchIsPosted, HistoriesKeepMessages, HistoriesKeepReceives}
use Rattle.history_laws.proofs.Tracing.{traced_end, posts_with}

-- the postings of a run before a place, those of the entry there, and those behind it
record Parts (p : Program) (s : State) (entries : List Entry) (place : ℕ) (made : Entry) : Type 0 where
  behind : List Posted
  is : postings_from p s entries
      ≡ postings_from p s (take place entries) ++ (postings_by_entry p (state_after p s (callers p (take place entries))) made ++ behind)

parts_at : (p : Program) (s : State) (entries : List Entry) (place : ℕ) (made : Entry) → slice_get entries place ≡ Some made → Parts p s entries place made
parts_at p s [] place made at = absurd (none-some made at)
parts_at p s (e ∷ entries) zero made at =
    let rest = postings_from p (step p s (caller (length p.tasks.items) e)).state entries in
    record { behind = rest; is = ap (λ (x : Entry). postings_by_entry p s x ++ rest) (same_Some e made at) }
parts_at p s (e ∷ entries) (suc place) made at =
    let next = (step p s (caller (length p.tasks.items) e)).state in
    let one = parts_at p next entries place made at in
    record {
      behind = one.behind;
      is = ap (λ (calls : List Posted). postings_by_entry p s e ++ calls) one.is
          ∙ sym (append_assoc (postings_by_entry p s e) (postings_from p next (take place entries))
          (postings_by_entry p (state_after p next (callers p (take place entries))) made ++ one.behind));
    }

-- how much is posted before a place
abbrev count_at : Program → List Entry → ℕ → ℕ
count_at p entries place = length (postings_of p (take place entries))

middle : {X : Type 0} (xs : List X) (x : X) (ys : List X) → slice_get (xs ++ (x ∷ ys)) (length xs) ≡ Some x
middle [] x ys = refl
middle (z ∷ xs) x ys = middle xs x ys

-- the posting of an entry stands behind all that was posted before
place_of : (p : Program) (entries : List Entry) (place : ℕ) (call : Posted) → PostsAt p entries place call
    → slice_get (postings_of p entries) (count_at p entries place) ≡ Some call
place_of p entries place call at =
    let one = parts_at p (opening p) entries place at.made at.there in
    let is : postings_of p entries ≡ postings_of p (take place entries) ++ (call ∷ one.behind) =
    one.is ∙ ap (λ (calls : List Posted). postings_of p (take place entries) ++ (calls ++ one.behind)) at.posts in
    ap (λ (calls : List Posted). slice_get calls (count_at p entries place)) is ∙ middle (postings_of p (take place entries)) call one.behind

-- what stands in a list stands in a front of it that is long enough
in_front : {X : Type 0} (xs : List X) (j k : ℕ) (x : X) → j < k → slice_get xs j ≡ Some x → slice_get (take k xs) j ≡ Some x
in_front xs j zero x below at = absurd (omega (arith, below))
in_front [] j (suc k) x below at = absurd (none-some x at)
in_front (y ∷ xs) zero (suc k) x below at = at
in_front (y ∷ xs) (suc j) (suc k) x below at = in_front xs j k x (omega (arith, below)) at

-- what is posted at an earlier place stands earlier
place_before : (p : Program) (entries : List Entry) (place later : ℕ) (call : Posted) → PostsAt p entries place call → place < later
    → count_at p entries place < count_at p entries later
place_before p entries place later call at below =
    let front = take later entries in
    let same : take place front ≡ take place entries = take-take place later entries (omega (arith, below)) in
    let one = parts_at p (opening p) front place at.made (in_front entries place later at.made below at.there) in
    let is : postings_of p front ≡ postings_of p (take place entries) ++ (call ∷ one.behind) =
    one.is ∙ ap (λ (es : List Entry). postings_of p es ++ (postings_by_entry p (final p es) at.made ++ one.behind)) same
    ∙ ap (λ (calls : List Posted). postings_of p (take place entries) ++ (calls ++ one.behind)) at.posts in
    omega (arith, ap (λ (calls : List Posted). length calls) is, length-append (postings_of p (take place entries)) (call ∷ one.behind))

-- an entry posts one request at most
abbrev AtMostOne : List ReqNo → Type 0
AtMostOne reqs = (reqs ≡ []) ⊎ ((req : ReqNo) × (reqs ≡ req ∷ []))

one_if : (b : Bool) (req : ReqNo) → AtMostOne (cond b (req ∷ []) [])
one_if true req = inr (req, refl)
one_if false req = inl refl

one_op : (t k : ℕ) (def : TaskDef) (o : Option Op) → AtMostOne (posted_at t k def o)
one_op t k def None = inl refl
one_op t k def (Some operation) = one_if (is_posting operation) (request t (nth_at def k))

one_task : (t k : ℕ) (o : Option TaskDef) → AtMostOne (posted_in t k o)
one_task t k None = inl refl
one_task t k (Some def) = one_op t k def (slice_get def.body.items k)

one_call : (p : Program) (o : Option Place) → AtMostOne (given [] (λ (at : Place). posted_in at.task at.op (slice_get p.tasks.items at.task)) o)
one_call p None = inl refl
one_call p (Some at) = one_task at.task at.op (slice_get p.tasks.items at.task)

-- each posting of a run is that of an entry
record PostsFrom (p : Program) (s : State) (entries : List Entry) (call : Posted) : Type 0 where
  place : ℕ
  made : Entry
  there : slice_get entries place ≡ Some made
  posts : postings_by_entry p (state_after p s (callers p (take place entries))) made ≡ call ∷ []

one_later : (p : Program) (s : State) (e : Entry) (entries : List Entry) (call : Posted)
    → PostsFrom p (step p s (caller (length p.tasks.items) e)).state entries call
    → PostsFrom p s (e ∷ entries) call
one_later p s e entries call one = record { place = suc one.place; made = one.made; there = one.there; posts = one.posts }

comes_by : (p : Program) (s : State) (e : Entry) (entries : List Entry) (n : ℕ) (call : Posted) → AtMostOne (posted_by_entry p e)
    → ((m : ℕ) → slice_get (postings_from p (step p s (caller (length p.tasks.items) e)).state entries) m ≡ Some call
    → PostsFrom p (step p s (caller (length p.tasks.items) e)).state entries call)
    → slice_get (postings_from p s (e ∷ entries)) n ≡ Some call → PostsFrom p s (e ∷ entries) call
comes_by p s e entries n call (inl none) rest at =
    let next = (step p s (caller (length p.tasks.items) e)).state in
    let here : postings_by_entry p s e ≡ [] = ap (map (posts_with p (cells_of_entry p s e))) none in
    one_later p s e entries call (rest n (ap (λ (calls : List Posted). slice_get (calls ++ postings_from p next entries) n) (sym here) ∙ at))
comes_by p s e entries zero call (inr one) rest at =
    let next = (step p s (caller (length p.tasks.items) e)).state in
    let here : postings_by_entry p s e ≡ posts_with p (cells_of_entry p s e) one.0 ∷ [] = ap (map (posts_with p (cells_of_entry p s e))) one.1 in
    record {
      place = zero;
      made = e;
      there = refl;
      posts = here ∙ ap (λ (c : Posted). c ∷ [])
          (same_Some _ call (ap (λ (calls : List Posted). slice_get (calls ++ postings_from p next entries) zero) (sym here) ∙ at));
    }
comes_by p s e entries (suc n) call (inr one) rest at =
    let next = (step p s (caller (length p.tasks.items) e)).state in
    let here : postings_by_entry p s e ≡ posts_with p (cells_of_entry p s e) one.0 ∷ [] = ap (map (posts_with p (cells_of_entry p s e))) one.1 in
    one_later p s e entries call (rest n (ap (λ (calls : List Posted). slice_get (calls ++ postings_from p next entries) (suc n)) (sym here) ∙ at))

comes_from : (p : Program) (s : State) (entries : List Entry) (n : ℕ) (call : Posted) → slice_get (postings_from p s entries) n ≡ Some call
    → PostsFrom p s entries call
comes_from p s [] n call at = absurd (none-some call at)
comes_from p s (e ∷ entries) n call at =
    comes_by p s e entries n call (one_call p (call_in e)) (λ m. comes_from p (step p s (caller (length p.tasks.items) e)).state entries m call) at

-- a match of a legal history is one of its postings
match_at : MatchesArePosted → (p : Program) (w : ℕ) (entries : List Entry) (statuses : List Status) → IsLegal p w entries statuses → (i : ℕ) (made : Match)
    → slice_get (matches_of p entries) i ≡ Some made → (rank : ℕ) × IsMatchAt p.ranks rank (postings_of p entries) i made
match_at law p w entries statuses legal i made at =
    let end = traced_end p w entries statuses legal in
    law p.ranks (postings_of p entries) i made end.new (ap (λ (x : Exchange). slice_get x.matches i) (sym end.exchange) ∙ at)

pub each_posted : MatchesArePosted → EachMatchIsPosted
each_posted law p w entries statuses legal made has =
    let one = match_at law p w entries statuses legal has.0 made (at_place (matches_of p entries) made has) in
    let sent = comes_from p (opening p) entries one.1.sent_at (sends one.0 made.message) one.1.sent in
    let asked = comes_from p (opening p) entries one.1.asked_at (asks one.0 made.receive) one.1.asked in
    record {
      rank = one.0;
      rank_is = one.1.rank_is;
      sent_at = sent.place;
      asked_at = asked.place;
      sent = record { made = sent.made; there = sent.there; posts = sent.posts };
      asked = record { made = asked.made; there = asked.there; posts = asked.posts };
      accepts = one.1.accepts;
    }

-- one posting of a request stands at one place
same_one : (p : Program) (w : ℕ) (entries : List Entry) (statuses : List Status) → IsLegal p w entries statuses → (place n : ℕ) (one other : Posted)
    → PostsAt p entries place one → slice_get (postings_of p entries) n ≡ Some other → one.request ≡ other.request
    → (n ≡ count_at p entries place) × (other ≡ one)
same_one p w entries statuses legal place n one other at there same =
    let end = traced_end p w entries statuses legal in
    let here = place_of p entries place one at in
    let equal : n ≡ count_at p entries place = sym (one_place p.ranks (postings_of p entries) (count_at p entries place) n one other end.new here there same) in
    (equal, same_Some other one (sym there ∙ ap (slice_get (postings_of p entries)) equal ∙ here))

pub messages_kept : MatchesArePosted → MessagesKeepOrder → HistoriesKeepMessages
messages_kept posted law p w entries statuses legal rank i sent_at place made earlier match sent before sooner accepts =
    let end = traced_end p w entries statuses legal in
    let one = match_at posted p w entries statuses legal i made match in
    let own = same_one p w entries statuses legal sent_at one.1.sent_at (sends rank made.message) (sends one.0 made.message) sent one.1.sent refl in
    let here : rank ≡ one.0 = sym (ap (λ (c : Posted). target c.posting) own.1) in
    let count = count_at p entries place in
    let at : slice_get (postings_of p entries) count ≡ Some (sends one.0 earlier) =
    place_of p entries place (sends rank earlier) before ∙ ap (λ (r : ℕ). Some (sends r earlier)) here in
    subst (λ (x : Exchange). Contains (map (λ (m : Match). m.message) (take i x.matches)) earlier) (sym end.exchange)
    (law p.ranks one.0 (postings_of p entries) i count made earlier one.1 at
    (omega (arith, place_before p entries place sent_at (sends rank earlier) before sooner, own.0)) accepts)

pub receives_kept : MatchesArePosted → ReceivesKeepOrder → HistoriesKeepReceives
receives_kept posted law p w entries statuses legal rank i asked_at place made earlier match asked before sooner accepts =
    let end = traced_end p w entries statuses legal in
    let one = match_at posted p w entries statuses legal i made match in
    let own = same_one p w entries statuses legal asked_at one.1.asked_at (asks rank made.receive) (asks one.0 made.receive) asked one.1.asked refl in
    let here : rank ≡ one.0 = sym (ap (λ (c : Posted). target c.posting) own.1) in
    let count = count_at p entries place in
    let at : slice_get (postings_of p entries) count ≡ Some (asks one.0 earlier) =
    place_of p entries place (asks rank earlier) before ∙ ap (λ (r : ℕ). Some (asks r earlier)) here in
    subst (λ (x : Exchange). Contains (map (λ (m : Match). m.receive) (take i x.matches)) earlier) (sym end.exchange)
    (law p.ranks one.0 (postings_of p entries) i count made earlier one.1 at
    (omega (arith, place_before p entries place asked_at (asks rank earlier) before sooner, own.0)) accepts)
