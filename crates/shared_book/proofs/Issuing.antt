-- One request more of those that a holder issues.
use Rattle.std.proofs.Common.{◌≡◌, ℕ, zero, suc, ◌+◌, ◌<◌, ◌≤◌, ◌==◌, List, [], ◌∷◌, ◌++◌, length, take, drop, slice_get, Option, Some, None, refl, sym}
use Rattle.std.proofs.Common.{ap, ◌∙◌, subst, arith}
use Rattle.std.proofs.Common.{append_assoc}
use Rattle.std.specs.Prelude.{IsSome}
use Rattle.std.proofs.lemmas.List.{append-nil}
use Rattle.rt_base.specs.declared.data.ReqNo.{ReqNo}
use Rattle.task_machine.specs.Owed.{IsOneOf}
use Rattle.task_machine.proofs.Items.{same_some}
use Rattle.rt_base.specs.Matching.{same_request}
use Rattle.rt_base.proofs.SameRequest.{same_request-self}
use Rattle.std.proofs.lemmas.Bool.{or_left, or_right}
use Rattle.std.specs.List.{list_any}
use Rattle.meetings.specs.Meetings.{one, times}
use Rattle.meetings.proofs.Counts.{times-append, one_same}
use Rattle.meet_hall.specs.Holders.{HolderIs, TicketIs, issuing_one, ticket_from}
use Rattle.shared_tasks.specs.Places.{places_of}
use Rattle.shared_tasks.specs.Owing.{place_in, issuing_all, AreNew, HasIssued}
use Rattle.shared_tasks.proofs.Lying.{places_stay}
use Rattle.shared_tasks.proofs.Opening.{places-append}

take_suc : (reqs : List ReqNo) (i : ℕ) (req : ReqNo) → slice_get reqs i ≡ Some req → take (suc i) reqs ≡ take i reqs ++ req ∷ []
take_suc [] i req here = absurd (cc)
take_suc (r ∷ reqs) zero req here = ap (λ (q : ReqNo). q ∷ []) (same_some here)
take_suc (r ∷ reqs) (suc i) req here = ap (λ (rs : List ReqNo). r ∷ rs) (take_suc reqs i req here)

places_split : (reqs : List ReqNo) (i : ℕ) (req : ReqNo) → slice_get reqs i ≡ Some req
    → places_of reqs ≡ places_of (take i reqs) ++ req.nth ∷ places_of (drop (suc i) reqs)
places_split [] i req here = absurd (cc)
places_split (r ∷ reqs) zero req here = ap (λ (q : ReqNo). q.nth ∷ places_of reqs) (same_some here)
places_split (r ∷ reqs) (suc i) req here = ap (λ (ps : List ℕ). r.nth ∷ ps) (places_split reqs i req here)

-- a list up to a place, and one item more
pub take_one_more : (reqs : List ReqNo) (i : ℕ) (req : ReqNo) → slice_get reqs i ≡ Some req → take (i + 1) reqs ≡ take i reqs ++ req ∷ []
take_one_more reqs i req here = let next : i + 1 ≡ suc i = omega arith in ap (λ (n : ℕ). take n reqs) next ∙ take_suc reqs i req here

pub take_whole : (reqs : List ReqNo) (i : ℕ) → length reqs ≤ i → take i reqs ≡ reqs
take_whole [] zero all = refl
take_whole [] (suc i) all = refl
take_whole (r ∷ reqs) zero all = absurd (omega (arith, all))
take_whole (r ∷ reqs) (suc i) all = ap (λ (rs : List ReqNo). r ∷ rs) (take_whole reqs i (omega (arith, all)))

pub none_there : (reqs : List ReqNo) (i : ℕ) → slice_get reqs i ≡ None → length reqs ≤ i
none_there [] i none = omega arith
none_there (r ∷ reqs) zero none = absurd (cc)
none_there (r ∷ reqs) (suc i) none = omega (arith, none_there reqs i none)

pub there_is_in : (reqs : List ReqNo) (i : ℕ) (req : ReqNo) → slice_get reqs i ≡ Some req → IsOneOf req reqs
there_is_in [] i req here = absurd (cc)
there_is_in (r ∷ reqs) zero req here =
    let same : r ≡ req = same_some here in
    subst (λ (q : ReqNo). IsOneOf q (r ∷ reqs)) same (or_left (same_request r r) (list_any (same_request r) reqs) (same_request-self r))
there_is_in (r ∷ reqs) (suc i) req here = or_right (same_request req r) (list_any (same_request req) reqs) (there_is_in reqs i req here)

-- ---- the holder

pub issuing_none : (holder : HolderIs) → holder ≡ issuing_all holder []
issuing_none holder = ap (λ (ps : List ℕ). record holder { issued = ps }) (sym (append-nil holder.issued))

pub issuing_more : (holder : HolderIs) (reqs : List ReqNo) (req : ReqNo) → issuing_one (issuing_all holder reqs) req.nth ≡ issuing_all holder (reqs ++ req ∷ [])
issuing_more holder reqs req =
    ap (λ (ps : List ℕ). record holder { issued = ps })
    (append_assoc holder.issued (places_of reqs) (req.nth ∷ []) ∙ ap (λ (ps : List ℕ). holder.issued ++ ps) (sym (places-append reqs (req ∷ []))))

-- the place of the next one is new
pub next_is_new : (t : ℕ) (holder : HolderIs) (reqs : List ReqNo) (i : ℕ) (req : ReqNo) → AreNew t holder reqs → slice_get reqs i ≡ Some req
    → times req.nth (holder.issued ++ places_of (take i reqs)) ≡ 0
next_is_new t holder reqs i req new here =
    let parts = places_split reqs i req here in
    let one_ : one (req.nth == req.nth) ≡ 1 = one_same req.nth req.nth refl in
    let whole = times-append req.nth holder.issued (places_of reqs) in
    let front = times-append req.nth holder.issued (places_of (take i reqs)) in
    let all : times req.nth (places_of reqs) ≡ times req.nth (places_of (take i reqs)) + times req.nth (req.nth ∷ places_of (drop (suc i) reqs)) =
    ap (times req.nth) parts ∙ times-append req.nth (places_of (take i reqs)) (req.nth ∷ places_of (drop (suc i) reqs)) in
    omega (arith, new.once req.nth, whole, front, all, one_)

-- the place of the next one exists
pub next_is_within : (t : ℕ) (holder : HolderIs) (reqs : List ReqNo) (i : ℕ) (req : ReqNo) → AreNew t holder reqs → slice_get reqs i ≡ Some req
    → req.nth < holder.places
next_is_within t holder reqs i req new here =
    let parts = places_split reqs i req here in
    let one_ : one (req.nth == req.nth) ≡ 1 = one_same req.nth req.nth refl in
    let all : times req.nth (places_of reqs) ≡ times req.nth (places_of (take i reqs)) + times req.nth (req.nth ∷ places_of (drop (suc i) reqs)) =
    ap (times req.nth) parts ∙ times-append req.nth (places_of (take i reqs)) (req.nth ∷ places_of (drop (suc i) reqs)) in
    new.within req.nth (omega (arith, all, one_))

-- what had a place has it
pub issued_place : (old new : List (List (Option TicketIs))) (holder : HolderIs) (req q : ReqNo) → IsSome (place_in old req) → HasIssued old new holder req
    → IsSome (place_in old q) → IsSome (place_in new q)
issued_place old new holder req q has issued had =
    subst (λ (rows : List (List (Option TicketIs))). IsSome (place_in rows q)) (sym issued.1)
    (places_stay old req q (Some (ticket_from holder req.nth issued.0)) has had)
