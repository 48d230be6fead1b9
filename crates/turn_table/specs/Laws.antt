-- What follows from the table.
use Rattle.std.specs.Prelude.{◌≡◌, ◌≢◌, true, List, [], ◌∷◌, All}
use Rattle.std.specs.List.{list_all, list_any}
use Rattle.turn_table.specs.declared.hands.Door.TheVariants as door
use Rattle.turn_table.specs.declared.hands.Shape.{Shape}
use Rattle.turn_table.specs.declared.turns.Act.{Act}
use Rattle.turn_table.specs.declared.turns.Act.TheVariants as act
use Rattle.turn_table.specs.declared.turns.Answer.{Answer}
use Rattle.turn_table.specs.declared.turns.Answer.TheVariants as answer
use Rattle.turn_table.specs.Turns.{Next, row_of, same_answer, shape_after}

-- an answer that stands in the row of a shape leads to the shape beside it
abbrev pub RowsAreFollowed : Type 0
RowsAreFollowed = (shape : Shape) → All (λ (next : Next). shape_after shape next.answer ≡ next.shape) (row_of shape).nexts

-- an answer that does not stand there leaves the shape
abbrev pub OtherAnswersKeepTheShape : Type 0
OtherAnswersKeepTheShape = (shape : Shape) (answer : Answer)
    → All (λ (next : Next). next.answer ≢ answer) (row_of shape).nexts → shape_after shape answer ≡ shape

-- the answers that an act may get
abbrev pub answers_of : Act → List Answer
answers_of act.Poll = answer.None ∷ answer.Notice ∷ []
answers_of act.Pop = answer.None ∷ answer.TookFresh ∷ answer.TookLive ∷ []
answers_of act.Offer = answer.None ∷ answer.OfferedOne ∷ []
answers_of act.Push = answer.Put ∷ answer.Full ∷ []
answers_of act.Move = answer.Done ∷ answer.Pending door.Pause ∷ answer.Pending door.Events ∷ answer.Released ∷ []
answers_of act.Park = answer.Waiting ∷ answer.Last ∷ []
answers_of act.Arrive = answer.Waiting ∷ answer.Last ∷ []
answers_of act.Idle = answer.Work ∷ answer.Quiet ∷ answer.Stopped ∷ []

-- the answers in a row are answers of its act
abbrev pub AnswersAreOfTheAct : Type 0
AnswersAreOfTheAct = (shape : Shape)
    → list_all (λ (next : Next). list_any (same_answer next.answer) (answers_of (row_of shape).act)) (row_of shape).nexts ≡ true
