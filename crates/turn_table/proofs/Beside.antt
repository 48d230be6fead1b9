-- What stands beside an answer in a row.
use Rattle.std.proofs.Common.{◌≡◌, ◌≢◌, true, false, List, [], ◌∷◌, refl, ap, ⊎_elim}
use Rattle.std.specs.List.{All}
use Rattle.std.proofs.lemmas.Bool.{false≢true, cases_Bool}
use Rattle.std.proofs.lemmas.List.Elements.{All-head, All-tail}
use Rattle.turn_table.specs.declared.hands.Door.{Door}
use Rattle.turn_table.specs.declared.hands.Door.TheVariants as door
use Rattle.turn_table.specs.declared.hands.Shape.{Shape}
use Rattle.turn_table.specs.declared.turns.Answer.{Answer}
use Rattle.turn_table.specs.declared.turns.Answer.TheVariants as answer
use Rattle.turn_table.specs.Turns.{Next, row_of, same_door, same_answer, beside, shape_after}

-- doors that are told to be the same are one
same_door_is : (one other : Door) → same_door one other ≡ true → one ≡ other
same_door_is door.Pause door.Pause same = refl
same_door_is door.Events door.Events same = refl
same_door_is _ _ same = absurd (false≢true same)

-- answers that are told to be the same are one
same_answer_is : (one other : Answer) → same_answer one other ≡ true → one ≡ other
same_answer_is answer.None answer.None same = refl
same_answer_is answer.TookFresh answer.TookFresh same = refl
same_answer_is answer.TookLive answer.TookLive same = refl
same_answer_is answer.OfferedOne answer.OfferedOne same = refl
same_answer_is answer.Put answer.Put same = refl
same_answer_is answer.Full answer.Full same = refl
same_answer_is answer.Done answer.Done same = refl
same_answer_is (answer.Pending one) (answer.Pending other) same = ap (λ door. answer.Pending door) (same_door_is one other same)
same_answer_is answer.Released answer.Released same = refl
same_answer_is answer.Waiting answer.Waiting same = refl
same_answer_is answer.Last answer.Last same = refl
same_answer_is answer.Notice answer.Notice same = refl
same_answer_is answer.Work answer.Work same = refl
same_answer_is answer.Quiet answer.Quiet same = refl
same_answer_is answer.Stopped answer.Stopped same = refl
same_answer_is _ _ same = absurd (false≢true same)

-- what stands in no row of these leaves the shape
beside-other : (answer : Answer) (shape : Shape) (nexts : List Next)
    → All (λ (next : Next). next.answer ≢ answer) nexts → beside answer shape nexts ≡ shape
beside-other answer shape [] others = refl
beside-other answer shape (next ∷ nexts) others =
    let rest : beside answer shape nexts ≡ shape = beside-other answer shape nexts (All-tail (λ (next : Next). next.answer ≢ answer) next nexts others) in
    ⊎_elim
    (λ (same : same_answer next.answer answer ≡ true).
    absurd (All-head (λ (next : Next). next.answer ≢ answer) next nexts others (same_answer_is next.answer answer same)))
    (λ (differ : same_answer next.answer answer ≡ false). rw differ rest)
    (cases_Bool (same_answer next.answer answer))

-- an answer that does not stand in the row of a shape keeps it
pub keeps_the_shape : (shape : Shape) (answer : Answer)
    → All (λ (next : Next). next.answer ≢ answer) (row_of shape).nexts → shape_after shape answer ≡ shape
keeps_the_shape shape answer others = beside-other answer shape (row_of shape).nexts others
