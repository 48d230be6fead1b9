-- The scheduling policy of a worker as a table: for each control state its act, the answers that the act may get, and the control state after each
-- (this project's). Whatever a worker's hand holds is made, moved or brought on by one act on one shared object.
use Rattle.std.specs.Prelude.{Bool, true, false, List, [], ◌∷◌, if◌then◌else◌}
use Rattle.turn_table.specs.declared.hands.Door.{Door}
use Rattle.turn_table.specs.declared.hands.Door.TheVariants as door
use Rattle.turn_table.specs.declared.hands.Look.TheVariants as look
use Rattle.turn_table.specs.declared.hands.Shape.{Shape}
use Rattle.turn_table.specs.declared.hands.Shape.TheVariants as shape
use Rattle.turn_table.specs.declared.turns.Act.{Act}
use Rattle.turn_table.specs.declared.turns.Act.TheVariants as act
use Rattle.turn_table.specs.declared.turns.Answer.{Answer}
use Rattle.turn_table.specs.declared.turns.Answer.TheVariants as answer

-- an empty hand that looks for a notice
abbrev pub beginning : Shape
beginning = shape.Nothing look.Poll

-- an answer, and the shape after it
pub record Next : Type 0 where
  pub answer : Answer
  pub shape : Shape

-- a row of the table: the act, and the shape after each answer that it may get
pub record Row : Type 0 where
  pub act : Act
  pub nexts : List Next

-- a shape after an answer
abbrev pub to : Answer → Shape → Next
to answer shape = record { answer = answer; shape = shape }

-- a row of the table
abbrev pub row : Act → List Next → Row
row act nexts = record { act = act; nexts = nexts }

-- the table
abbrev pub row_of : Shape → Row
row_of (shape.Nothing look.Poll) =
    row act.Poll (to answer.None (shape.Nothing look.Pop) ∷ to answer.Notice shape.Told ∷ [])
row_of (shape.Nothing look.Pop) =
    row act.Pop (to answer.None (shape.Nothing look.Offer) ∷ to answer.TookFresh shape.Fresh ∷ to answer.TookLive shape.Ready ∷ [])
row_of (shape.Nothing look.Offer) =
    row act.Offer (to answer.None (shape.Nothing look.Idle) ∷ to answer.OfferedOne shape.Offered ∷ [])
row_of (shape.Nothing look.Idle) =
    row act.Idle (to answer.Work beginning ∷ to answer.Quiet (shape.Nothing look.Idle) ∷ to answer.Stopped (shape.Nothing look.Idle) ∷ [])
row_of shape.Offered =
    row act.Push (to answer.Put beginning ∷ to answer.Full shape.Fresh ∷ [])
row_of shape.Resumed =
    row act.Push (to answer.Put beginning ∷ to answer.Full shape.Ready ∷ [])
row_of shape.Fresh =
    row act.Move (to answer.Done shape.Ready ∷ [])
row_of shape.Ready =
    row act.Move (to answer.Done shape.Ready ∷ to (answer.Pending door.Pause) (shape.Pending door.Pause)
    ∷ to (answer.Pending door.Events) (shape.Pending door.Events) ∷ to answer.Released beginning ∷ [])
row_of (shape.Pending door) =
    row act.Park (to answer.Waiting beginning ∷ to answer.Last shape.Ready ∷ [])
row_of shape.Told =
    row act.Arrive (to answer.Waiting beginning ∷ to answer.Last shape.Resumed ∷ [])

-- the two doors are one
abbrev pub same_door : Door → Door → Bool
same_door door.Pause door.Pause = true
same_door door.Events door.Events = true
same_door _ _ = false

-- the two answers are one
abbrev pub same_answer : Answer → Answer → Bool
same_answer answer.None answer.None = true
same_answer answer.TookFresh answer.TookFresh = true
same_answer answer.TookLive answer.TookLive = true
same_answer answer.OfferedOne answer.OfferedOne = true
same_answer answer.Put answer.Put = true
same_answer answer.Full answer.Full = true
same_answer answer.Done answer.Done = true
same_answer (answer.Pending one) (answer.Pending other) = same_door one other
same_answer answer.Released answer.Released = true
same_answer answer.Waiting answer.Waiting = true
same_answer answer.Last answer.Last = true
same_answer answer.Notice answer.Notice = true
same_answer answer.Work answer.Work = true
same_answer answer.Quiet answer.Quiet = true
same_answer answer.Stopped answer.Stopped = true
same_answer _ _ = false

-- the shape that stands beside this answer, or else this shape
abbrev pub beside : Answer → Shape → List Next → Shape
beside answer shape [] = shape
beside answer shape (next ∷ nexts) = if same_answer next.answer answer then next.shape else beside answer shape nexts

-- the act that the table gives a shape
abbrev pub act_of : Shape → Act
act_of shape = (row_of shape).act

-- the shape after this answer: an answer that does not stand in the row keeps the shape
abbrev pub shape_after : Shape → Answer → Shape
shape_after shape answer = beside answer shape (row_of shape).nexts
