-- What a posting does to the requests: who is posted, matched and complete after it.
use Rattle.std.proofs.Common.{◌≡◌, ℕ, Bool, true, false, ◌&&◌, ◌||◌, cond, List, [], ◌∷◌, ℤ, find, option_to_list, Option, Some, None, option_map}
use Rattle.std.proofs.Common.{IfSome, is_some, sym, refl, ap, ◌∙◌}
use Rattle.std.specs.List.{list_any}
use Rattle.std.proofs.lemmas.List.Folds.{list_any-append, find-append}
use Rattle.std.proofs.lemmas.Bool.{or_right, or_from, false≢true}
use Rattle.std.proofs.lemmas.Option.{none-some, same_Some}
use Rattle.std.specs.Option.{option_or}
use Rattle.rt_base.specs.declared.data.ReqNo.{ReqNo}
use Rattle.rt_base.specs.declared.data.How.{How}
use Rattle.rt_base.specs.declared.data.How.TheVariants as how
use Rattle.rt_base.specs.declared.data.Peer.{Peer}
use Rattle.rt_base.specs.declared.data.Peer.TheVariants as peer
use Rattle.rt_base.specs.declared.data.TagSel.{TagSel}
use Rattle.rt_base.specs.declared.data.TagSel.TheVariants as tag
use Rattle.rt_base.specs.declared.data.Op.{Op}
use Rattle.rt_base.specs.declared.data.Op.TheVariants as op
use Rattle.rt_base.specs.declared.data.TaskDef.{TaskDef}
use Rattle.rt_base.specs.declared.data.Program.{Program}
use Rattle.rt_base.specs.Operations.{posting_of}
use Rattle.rt_base.specs.Matching.{Message, Receive, same_request}
use Rattle.rt_base.specs.Exchange.{Exchange, Match, Posting, Sent, Asked, Nowhere, sent_by, asked_by, posting_by, posting_or_nowhere, posting_of_task}
use Rattle.rt_base.specs.Exchange.{what_is_posted, match_made, exchange_after, other_of, partner_of, post, partner}
use Rattle.rt_base.specs.Completion.{is_party, match_with, is_posted, is_complete, completes_alone}
use Rattle.rt_base.proofs.SameRequest.{same_request-self, same_request-comm}

abbrev match : Message → Receive → Match
match message wish = record { message = message; receive = wish }

-- the posting is one of this request, or of none
abbrev pub IsOf : ReqNo → Posting → Type 0
IsOf req (Sent to message) = message.request ≡ req
IsOf req (Asked at wish) = wish.request ≡ req
IsOf req Nowhere = Unit {0}

sent_is_of : (req : ReqNo) (rank : ℕ) (whom : Peer) (selected : TagSel) (comm : ℕ) (cells : List ℤ) → IsOf req (sent_by req rank whom selected comm cells)
sent_is_of req rank (peer.Rank to) (tag.Tag chosen) comm cells = refl
sent_is_of req rank (peer.Rank to) tag.Any comm cells = tt
sent_is_of req rank peer.Any selected comm cells = tt
sent_is_of req rank peer.Null selected comm cells = tt

asked_is_of : (req : ReqNo) (rank : ℕ) (whom : Peer) (selected : TagSel) (comm : ℕ) → IsOf req (asked_by req rank whom selected comm)
asked_is_of req rank (peer.Rank from) selected comm = refl
asked_is_of req rank peer.Any selected comm = refl
asked_is_of req rank peer.Null selected comm = tt

pub posting_is_of : (kind : How) (req : ReqNo) (rank : ℕ) (whom : Peer) (selected : TagSel) (comm : ℕ) (cells : List ℤ)
    → IsOf req (posting_by kind req rank whom selected comm cells)
posting_is_of how.Send req rank whom selected comm cells = sent_is_of req rank whom selected comm cells
posting_is_of how.Ssend req rank whom selected comm cells = sent_is_of req rank whom selected comm cells
posting_is_of how.Recv req rank whom selected comm cells = asked_is_of req rank whom selected comm
posting_is_of how.Isend req rank whom selected comm cells = sent_is_of req rank whom selected comm cells
posting_is_of how.Issend req rank whom selected comm cells = sent_is_of req rank whom selected comm cells
posting_is_of how.Irecv req rank whom selected comm cells = asked_is_of req rank whom selected comm

posted_is_of : (req : ReqNo) (rank : ℕ) (cells : List ℤ) (operation : Option Op) → IsOf req (posting_or_nowhere req rank cells operation)
posted_is_of req rank cells None = tt
posted_is_of req rank cells (Some (op.Compute kernel dst left right value step)) = tt
posted_is_of req rank cells (Some (op.Post kind span whom selected comm status)) = posting_is_of kind req rank whom selected comm cells
posted_is_of req rank cells (Some (op.Await later handles status)) = tt

task_is_of : (program : Program) (req : ReqNo) (cells : List ℤ) (task : Option TaskDef) → IsOf req (posting_of_task program req cells task)
task_is_of program req cells None = tt
task_is_of program req cells (Some task) = posted_is_of req task.rank cells (posting_of program req)

-- what a request of the program posts is its own
pub what_is_of : (program : Program) (req : ReqNo) (cells : List ℤ) → IsOf req (what_is_posted program req cells)
unfolding what_is_posted
what_is_of program req cells = task_is_of program req cells _

pub or_none : (b : Bool) → (b || false) ≡ b
or_none true = refl
or_none false = refl

-- who is posted after a posting: who was, and the request itself
pub posted_after : (exchange : Exchange) (req q : ReqNo) (posting : Posting)
    → is_posted (exchange_after exchange req posting) q ≡ (is_posted exchange q || same_request q req)
posted_after exchange req q posting =
    list_any-append (same_request q) exchange.posted (req ∷ [])
    ∙ ap (λ (b : Bool). list_any (same_request q) exchange.posted || b) (or_none (same_request q req))

or_swapped : (a b : Bool) → (a || b) ≡ (b || a)
or_swapped true true = refl
or_swapped true false = refl
or_swapped false true = refl
or_swapped false false = refl

-- where there is an image, there is what it is of
image_of : {X Y : Type 0} (f : X → Y) (o : Option X) (y : Y) → option_map f o ≡ Some y → (x : X) × (f x ≡ y)
image_of f None y is = absurd (none-some y is)
image_of f (Some x) y is = (x, same_Some (f x) y is)

-- the match of a posting has two parties: the request itself and its partner
pub party_of_made : (exchange : Exchange) (req q : ReqNo) (posting : Posting) (made : Match) → IsOf req posting → match_made exchange posting ≡ Some made
    → is_party q made ≡ (same_request req q || same_request (other_of posting made) q)
party_of_made exchange req q (Sent to message) made own is =
    let image = image_of (λ (found : Receive). match message found) _ made is in
    ap (λ (m : Message). same_request m.request q || same_request made.receive.request q) (sym (ap (λ (m : Match). m.message) image.1))
    ∙ ap (λ (r : ReqNo). same_request r q || same_request made.receive.request q) own
party_of_made exchange req q (Asked at wish) made own is =
    let image = image_of (λ (found : Message). match found wish) _ made is in
    ap (λ (w : Receive). same_request made.message.request q || same_request w.request q) (sym (ap (λ (m : Match). m.receive) image.1))
    ∙ ap (λ (r : ReqNo). same_request made.message.request q || same_request r q) own
    ∙ or_swapped (same_request made.message.request q) (same_request req q)
party_of_made exchange req q Nowhere made own is = absurd (none-some made is)

some_of_either : {X : Type 0} (one other : Option X) → is_some (option_or one other) ≡ (is_some one || is_some other)
some_of_either None other = refl
some_of_either (Some x) other = refl

-- who is in a match after a posting: who was, and the parties of the match that it makes
pub matched_after : (exchange : Exchange) (req q : ReqNo) (posting : Posting)
    → is_some (match_with (exchange_after exchange req posting).matches q)
    ≡ (is_some (match_with exchange.matches q) || is_some (match_with (option_to_list (match_made exchange posting)) q))
matched_after exchange req q posting =
    let new = option_to_list (match_made exchange posting) in
    ap is_some (find-append (is_party q) exchange.matches new) ∙ some_of_either (find (is_party q) exchange.matches) (find (is_party q) new)

still : (posted matched alone more most : Bool) → (posted && (matched || alone)) ≡ true → ((posted || more) && ((matched || most) || alone)) ≡ true
still true true alone more most h = refl
still true false true more true h = refl
still true false true more false h = refl
still true false false more most h = absurd (false≢true h)
still false matched alone more most h = absurd (false≢true h)

complete_still : (alone : Bool) (exchange : Exchange) (req q : ReqNo) (posting : Posting)
    → (is_posted exchange q && (is_some (match_with exchange.matches q) || alone)) ≡ true
    → (is_posted (exchange_after exchange req posting) q && (is_some (match_with (exchange_after exchange req posting).matches q) || alone)) ≡ true
complete_still alone exchange req q posting complete =
    ap (λ (b : Bool). b && (is_some (match_with (exchange_after exchange req posting).matches q) || alone)) (posted_after exchange req q posting)
    ∙ ap (λ (b : Bool). (is_posted exchange q || same_request q req) && (b || alone)) (matched_after exchange req q posting)
    ∙ still (is_posted exchange q) (is_some (match_with exchange.matches q)) alone (same_request q req)
    (is_some (match_with (option_to_list (match_made exchange posting)) q)) complete

-- a complete request stays complete whatever is posted
pub stays_complete : (program : Program) (exchange : Exchange) (req q : ReqNo) (cells : List ℤ)
    → is_complete program exchange q ≡ true → is_complete program (post program exchange req cells) q ≡ true
unfolding is_complete post
stays_complete program exchange req q cells complete =
    complete_still (completes_alone program.eager (posting_of program q)) exchange req q (what_is_posted program req cells) complete

-- who isn't a party of the match that a posting makes
no_party : (exchange : Exchange) (req q : ReqNo) (posting : Posting) (made : Option Match) → IsOf req posting → match_made exchange posting ≡ made
    → same_request req q ≡ false → IfSome (option_map (other_of posting) made) (λ other. same_request other q ≡ false)
    → is_some (match_with (option_to_list made) q) ≡ false
no_party exchange req q posting None own is apart others = refl
no_party exchange req q posting (Some made) own is apart others =
    ap (λ (b : Bool). is_some (cond b (Some made) None))
    (party_of_made exchange req q posting made own is ∙ or_from (same_request req q) (same_request (other_of posting made) q) apart others)

nothing_more : (posted matched alone more most : Bool) → more ≡ false → most ≡ false
    → ((posted || more) && ((matched || most) || alone)) ≡ (posted && (matched || alone))
nothing_more posted matched alone more most no_more no_most =
    ap (λ (b : Bool). (posted || b) && ((matched || most) || alone)) no_more
    ∙ ap (λ (b : Bool). (posted || false) && ((matched || b) || alone)) no_most
    ∙ ap (λ (b : Bool). b && ((matched || false) || alone)) (or_none posted)
    ∙ ap (λ (b : Bool). posted && (b || alone)) (or_none matched)

unchanged : (alone : Bool) (exchange : Exchange) (req q : ReqNo) (posting : Posting) → IsOf req posting → same_request req q ≡ false
    → IfSome (partner_of exchange posting) (λ other. same_request other q ≡ false)
    → (is_posted (exchange_after exchange req posting) q && (is_some (match_with (exchange_after exchange req posting).matches q) || alone))
    ≡ (is_posted exchange q && (is_some (match_with exchange.matches q) || alone))
unchanged alone exchange req q posting own apart others =
    ap (λ (b : Bool). b && (is_some (match_with (exchange_after exchange req posting).matches q) || alone)) (posted_after exchange req q posting)
    ∙ ap (λ (b : Bool). (is_posted exchange q || same_request q req) && (b || alone)) (matched_after exchange req q posting)
    ∙ nothing_more (is_posted exchange q) (is_some (match_with exchange.matches q)) alone (same_request q req)
    (is_some (match_with (option_to_list (match_made exchange posting)) q))
    (same_request-comm q req ∙ apart) (no_party exchange req q posting (match_made exchange posting) own refl apart others)

-- a posting completes nothing but itself and its partner
pub only_partner : (program : Program) (exchange : Exchange) (req q : ReqNo) (cells : List ℤ) → same_request req q ≡ false
    → IfSome (partner program exchange req cells) (λ other. same_request other q ≡ false)
    → is_complete program (post program exchange req cells) q ≡ is_complete program exchange q
unfolding is_complete post partner
only_partner program exchange req q cells apart others =
    unchanged (completes_alone program.eager (posting_of program q)) exchange req q (what_is_posted program req cells) (what_is_of program req cells) apart
    others

-- a posting is posted
pub post_posts : (program : Program) (exchange : Exchange) (req : ReqNo) (cells : List ℤ) → is_posted (post program exchange req cells) req ≡ true
unfolding post
post_posts program exchange req cells =
    posted_after exchange req req (what_is_posted program req cells) ∙ or_right (is_posted exchange req) (same_request req req) (same_request-self req)

-- and nothing else becomes posted
pub post_keeps : (program : Program) (exchange : Exchange) (req q : ReqNo) (cells : List ℤ) → same_request req q ≡ false
    → is_posted (post program exchange req cells) q ≡ is_posted exchange q
unfolding post
post_keeps program exchange req q cells apart =
    posted_after exchange req q (what_is_posted program req cells)
    ∙ ap (λ (b : Bool). is_posted exchange q || b) (same_request-comm q req ∙ apart) ∙ or_none (is_posted exchange q)
