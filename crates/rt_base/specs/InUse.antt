-- Which requests and which cells are in use at an operation, by the operations before it.
use Rattle.std.specs.Prelude.{◌≡◌, ℕ, zero, suc, ◌+◌, Bool, true, false, not, ◌&&◌, ◌||◌, nat_eq, List, [], ◌∷◌, ◌++◌, option_to_list, Option, Some}
use Rattle.std.specs.Prelude.{None, if◌then◌else◌}
use Rattle.std.specs.List.{list_any}
use Rattle.rt_base.specs.declared.data.Span.{Span}
use Rattle.rt_base.specs.declared.data.Access.{Access}
use Rattle.rt_base.specs.declared.data.How.{How}
use Rattle.rt_base.specs.declared.data.Handle.{Handle}
use Rattle.rt_base.specs.declared.data.Handle.TheVariants as handle
use Rattle.rt_base.specs.declared.data.Op.{Op}
use Rattle.rt_base.specs.Operations.{blocks, is_receive, is_posting, posting_parts, wait_parts, given}
use Rattle.rt_base.specs.Touched.{reads, writes, shares, shares_any}

-- the handle names the nth request of the body
abbrev pub is_nth : ℕ → Handle → Bool
is_nth n handle.Null = false
is_nth n (handle.Nth m) = nat_eq m n

-- the operation is a wait that names the nth request
abbrev pub names_request : ℕ → Op → Bool
names_request n operation = given false (λ waited. list_any (is_nth n) waited.handles) (wait_parts operation)

-- the operation returns only when the nth request is complete (MPI 4.0, 3.7.3); one that only binds it to the task does not (TAMPI, TAMPI_Iwait)
abbrev pub completes : ℕ → Op → Bool
completes n operation = given false (λ waited. not waited.later && list_any (is_nth n) waited.handles) (wait_parts operation)

-- how many requests the operation posts
abbrev pub posts : Op → ℕ
posts operation = if is_posting operation then 1 else 0

-- the numbers of the requests that these operations posted and didn't wait for, and that none of them names. The first posts the nth
abbrev pub left_by : ℕ → Op → List Op → List ℕ
left_by n operation later =
    given [] (λ posted. if blocks posted.how || list_any (names_request n) later then [] else n ∷ []) (posting_parts operation)

unfoldable pub left_after : ℕ → List Op → List ℕ
left_after n [] = []
left_after n (operation ∷ more) = left_by n operation more ++ left_after (n + posts operation) more

-- the span of a call that doesn't wait stays in use until a wait completes its request (MPI 4.0, 3.7.2), and for such a test of the call alone
abbrev pub used_by : (How → Bool) → ℕ → Op → List Op → List Span
used_by test n operation more =
    given [] (λ posted. if blocks posted.how || (not (test posted.how) || list_any (completes n) more) then [] else posted.span ∷ []) (posting_parts operation)

unfoldable pub used_after : (How → Bool) → ℕ → List Op → List Span
used_after test n [] = []
used_after test n (operation ∷ more) = used_by test n operation more ++ used_after test (n + posts operation) more

-- the spans of receives under way, which nothing else may read or write (MPI 4.0, 3.7.2)
abbrev pub received_after : List Op → List Span
received_after earlier = used_after is_receive 0 earlier

-- the spans of sends under way, which nothing may write (MPI 4.0, 3.7.2)
abbrev pub sent_after : List Op → List Span
sent_after earlier = used_after (λ how. not (is_receive how)) 0 earlier

-- the status span of a wait that only binds its requests: it is filled when the task lets go (TAMPI, TAMPI_Iwait)
abbrev pub bound_status : Op → List Span
bound_status operation = given [] (λ waited. if waited.later then option_to_list waited.status else []) (wait_parts operation)

-- the status spans of all such waits
abbrev pub bound_statuses : List Op → List Span
bound_statuses [] = []
bound_statuses (operation ∷ more) = bound_status operation ++ bound_statuses more

-- a receive's own status lies apart from its span
abbrev pub shares_status : Op → Bool
shares_status operation = given false (λ posted. given false (shares posted.span) posted.status) (posting_parts operation)

-- after these operations of a task with these accesses the next one reads a cell in use for reading, or writes one in use for writing
unfoldable pub is_in_use : List Access → List Op → Op → Bool
is_in_use accesses earlier operation =
    list_any (shares_any (received_after earlier ++ bound_statuses earlier)) (reads accesses operation ++ writes accesses operation)
    || (list_any (shares_any (sent_after earlier)) (writes accesses operation) || shares_status operation)
