-- What is kept of a state while a text is unrolled, so that the program in the end is well formed.
use Rattle.std.proofs.Common.{◌≡◌, ◌≢◌, ℕ, zero, suc, ◌+◌, ◌*◌, ◌<◌, ◌≤◌, Bool, true, false, ◌⊎◌, List, [], ◌∷◌, ◌++◌, length, get_or, append_assoc}
use Rattle.std.proofs.Common.{length-append, refl, sym, ap, ◌∙◌, subst, inl, inr, arith}
use Rattle.std.specs.Prelude.{Contains, All, AllPairs, sum, sum_by, ⊤}
use Rattle.rt_base.specs.declared.data.Access.{Access}
use Rattle.rt_base.specs.declared.data.Op.{Op}
use Rattle.rt_base.specs.declared.data.TaskDef.{TaskDef}
use Rattle.rt_base.specs.declared.data.Program.{Program}
use Rattle.rt_base.specs.Spans.{span_len, Overlaps}
use Rattle.rt_base.specs.Layout.{array_count}
use Rattle.rt_base.specs.Operations.{postings}
use Rattle.rt_base.specs.InUse.{left_after}
use Rattle.rt_base.specs.WellFormed.{IsSpan, IsOperation, Follows, InOrder, region_cells, over_operations, names_of, cells_sent, IsTask}
use Rattle.task_names.specs.declared.meaning.Meaning.{Meaning}
use Rattle.task_names.specs.declared.meaning.Meaning.TheVariants as meaning
use Rattle.task_names.specs.Scopes.{Names}
use Rattle.task_unroll.specs.States.{Counts, State}
use Rattle.task_unroll.proofs.Meanings.{AllMean, NamedOnce}

-- what stays the same inside every block: the lengths and the tasks of the ranks before, the rank among how many, how many arrays
-- and communicators it has so far, and whether a task is open (1) or not (0)
pub record Stage : Type 0 where
  pub prior : List ℕ
  pub old : List TaskDef
  pub rank : ℕ
  pub size : ℕ
  pub arrays : ℕ
  pub comms : ℕ
  pub opened : ℕ

-- a program in which the rank may have these arrays and communicators, and more
pub record Continues (prior : List ℕ) (rank size comms : ℕ) (lens : List ℕ) (p : Program) : Type 0 where
  pub ranks : p.ranks ≡ size
  pub most_comms : comms ≤ p.comms
  pub after : List ℕ
  pub laid : p.lens.items ≡ prior ++ (lens ++ after)
  pub place : length prior ≡ rank * array_count p
  pub count : length lens ≤ array_count p

pub record HasArrays (g : Stage) (cells : ℕ) (arrays : List (List ℕ)) (lens shows : List ℕ) (comms : ℕ) : Type 0 where
  pub count : length arrays ≡ g.arrays
  pub each_len : length lens ≡ g.arrays
  pub few : g.arrays ≤ 1024
  pub sum_cells : cells ≡ sum g.prior + sum lens
  pub few_cells : cells ≤ 16777216
  pub shown : All (λ array. array < g.arrays) shows
  pub once : AllPairs (λ one other. one ≢ other) shows
  pub comm_count : comms ≡ g.comms
  pub some_comm : 1 ≤ g.comms
  pub few_comms : g.comms ≤ 256

-- each count is the sum over the tasks and the open task
pub record HasCounts (opened : ℕ) (counts : Counts) (tasks : List TaskDef) (accesses : List Access) (body : List Op) : Type 0 where
  pub task_count : length tasks + opened ≤ 65536
  pub access_count : counts.accesses ≡ sum_by (λ (task : TaskDef). length task.accesses.items) tasks + length accesses
  pub few_accesses : counts.accesses ≤ 4194304
  pub access_cells : counts.access_cells ≡ sum_by region_cells tasks + sum_by (λ (access : Access). span_len access.span) accesses
  pub few_access_cells : counts.access_cells ≤ 134217728
  pub operations : counts.operations ≡ sum_by (λ (task : TaskDef). length task.body.items) tasks + length body
  pub few_operations : counts.operations ≤ 1048576
  pub requests : counts.requests ≡ sum_by (λ (task : TaskDef). postings task.body.items) tasks + postings body
  pub few_requests : counts.requests ≤ 262144
  pub handles : counts.handles ≡ over_operations names_of tasks + sum_by names_of body
  pub few_handles : counts.handles ≤ 1048576
  pub message_cells : counts.message_cells ≡ over_operations cells_sent tasks + sum_by cells_sent body
  pub few_message_cells : counts.message_cells ≤ 67108864

-- the tasks stand in order, and one of this rank and epoch may follow them
pub record InTurn (rank epoch : ℕ) (tasks : List TaskDef) : Type 0 where
  pub order : AllPairs InOrder tasks
  pub past : All (λ (task : TaskDef). (task.rank ≤ rank) × (task.rank ≡ rank → task.epoch ≤ epoch)) tasks

abbrev pub AreTasks : Stage → ℕ → ℕ → ℕ → List ℕ → List TaskDef → Type 0
AreTasks g rank size comms lens tasks = (p : Program) → Continues g.prior rank size comms lens p → All (IsTask p) g.old → All (IsTask p) tasks

-- the open task, as far as it has come
pub record IsBegun (prior : List ℕ) (rank size comms : ℕ) (lens : List ℕ) (accesses : List Access) (body : List Op) : Type 0 where
  pub regions : (p : Program) → Continues prior rank size comms lens p → All (λ (access : Access). IsSpan p rank access.span) accesses
  pub apart : AllPairs (λ (one other : Access). ¬ Overlaps one.span other.span) accesses
  pub operations : (p : Program) → Continues prior rank size comms lens p → (task : TaskDef) → task.rank ≡ rank → task.accesses.items ≡ accesses
      → All (IsOperation p task) body
  pub follows : (earlier later : List Op) (operation : Op) → body ≡ earlier ++ operation ∷ later → Follows accesses earlier operation

-- in a body without operations none follows others
pub none_follow : (accesses : List Access) (body : List Op) → body ≡ [] → (earlier later : List Op) (operation : Op) → body ≡ earlier ++ operation ∷ later
    → Follows accesses earlier operation
none_follow accesses body none [] later operation is = absurd (cc)
none_follow accesses body none (o ∷ earlier) later operation is = absurd (cc)

-- the number that a name means is one that there is
abbrev pub IsFit : ℕ → ℕ → List Op → Meaning → Type 0
IsFit arrays comms body (meaning.Variable value) = ⊤
IsFit arrays comms body (meaning.Array number) = number < arrays
IsFit arrays comms body (meaning.Communicator number) = number < comms
IsFit arrays comms body (meaning.Posted n) = Contains (left_after 0 body) n
IsFit arrays comms body meaning.Idle = ⊤

pub record HasNames (arrays comms : ℕ) (names : Names) (body : List Op) : Type 0 where
  pub fit : AllMean (IsFit arrays comms body) names
  pub once : NamedOnce names

pub record IsSound (g : Stage) (s : State) : Type 0 where
  pub rank : s.rank ≡ g.rank
  pub size : s.size ≡ g.size
  pub below : s.rank < s.size
  pub arrays : HasArrays g s.counts.cells s.arrays s.lens s.shows s.comms
  pub counts : HasCounts g.opened s.counts s.tasks s.accesses s.body
  pub turn : InTurn s.rank s.epoch s.tasks
  pub tasks : AreTasks g s.rank s.size s.comms s.lens s.tasks
  pub begun : IsBegun g.prior s.rank s.size s.comms s.lens s.accesses s.body
  pub names : HasNames g.arrays g.comms s.names s.body
  pub before : HasNames g.arrays g.comms s.before []

-- no task is open
pub record IsMain (g : Stage) (s : State) : Type 0 where
  pub sound : IsSound g s
  pub no_accesses : s.accesses ≡ []
  pub no_body : s.body ≡ []
  pub closed : g.opened ≡ 0

-- a task is open
pub record IsInside (g : Stage) (s : State) : Type 0 where
  pub sound : IsSound g s
  pub one : g.opened ≡ 1

-- what continues a rank with more arrays and communicators continues it
pub continues_less : (prior : List ℕ) (rank size comms more : ℕ) (lens rest : List ℕ) (p : Program) → comms ≤ more
    → Continues prior rank size more (lens ++ rest) p → Continues prior rank size comms lens p
continues_less prior rank size comms more lens rest p above c =
    let most = c.most_comms in
    let count = c.count in
    record {
      ranks = c.ranks;
      most_comms = omega arith;
      after = rest ++ c.after;
      laid = c.laid ∙ ap (λ (zs : List ℕ). prior ++ zs) (append_assoc lens rest c.after);
      place = c.place;
      count = omega (arith, length-append lens rest, count);
    }
