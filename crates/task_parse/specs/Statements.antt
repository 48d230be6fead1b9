-- What the tokens of a line say, each form of statement by itself (this project's).
-- The first number is that of the brackets and unary minus signs that are open at the deepest place of the line.
use Rattle.std.specs.Prelude.{◌≡◌, ℕ, ◌+◌, ◌≤◌, max, Bool, true, false, List, [], ◌∷◌, ◌++◌, length, Option, Some, None}
use Rattle.rt_base.specs.Listing.{Listing}
use Rattle.rt_base.specs.Operations.{blocks, is_receive}
use Rattle.rt_base.specs.KernelForms.{source_count, number_count}
use Rattle.rt_base.specs.declared.data.Mode.{Mode}
use Rattle.rt_base.specs.declared.data.Mode.TheVariants as mode
use Rattle.rt_base.specs.declared.data.How.{How}
use Rattle.rt_base.specs.declared.data.How.TheVariants as how
use Rattle.rt_base.specs.declared.data.Kernel.{Kernel}
use Rattle.rt_base.specs.declared.data.Kernel.TheVariants as kernel
use Rattle.task_tree.specs.declared.key.Key.{Key}
use Rattle.task_tree.specs.declared.key.Key.TheVariants as key
use Rattle.task_tree.specs.declared.sign.Sign.TheVariants as sign
use Rattle.task_tree.specs.declared.token.Token.{Token}
use Rattle.task_tree.specs.declared.token.Token.TheVariants as token
use Rattle.task_tree.specs.declared.tree.SpanText.{SpanText}
use Rattle.task_tree.specs.declared.tree.PeerText.{PeerText}
use Rattle.task_tree.specs.declared.tree.PeerText.TheVariants as peer
use Rattle.task_tree.specs.declared.tree.TagText.{TagText}
use Rattle.task_tree.specs.declared.tree.TagText.TheVariants as tag
use Rattle.task_tree.specs.declared.tree.What.{What}
use Rattle.task_tree.specs.declared.tree.What.TheVariants as what
use Rattle.task_tree.specs.Term.{Term}
use Rattle.task_tree.specs.Grammar.{Is}

-- NAME [ expr .. expr ]
pub data IsSpan : ℕ → List Token → SpanText → Type 0 where
  span : {c d : ℕ} {xs ys : List Token} {from to : Term} (name : List ℕ) → Is 0 c xs from → Is 0 d ys to
      → IsSpan (max c d)
      (token.Name name ∷ token.Sign sign.OpenSquare ∷ (xs ++ token.Sign sign.Dots ∷ (ys ++ token.Sign sign.CloseSquare ∷ [])))
      (record { array = name; from = from; to = to })

-- an expression, `null`, and in a receive `any`
pub data IsPeer : How → ℕ → List Token → PeerText → Type 0 where
  at : {call : How} {d : ℕ} {ts : List Token} {e : Term} → Is 0 d ts e → IsPeer call d ts (peer.At e)
  any : {call : How} → is_receive call ≡ true → IsPeer call 0 (token.Key key.Any ∷ []) peer.Any
  null : {call : How} → IsPeer call 0 (token.Key key.Null ∷ []) peer.Null

-- an expression, and in a receive `any`
pub data IsTag : How → ℕ → List Token → TagText → Type 0 where
  at : {call : How} {d : ℕ} {ts : List Token} {e : Term} → Is 0 d ts e → IsTag call d ts (tag.At e)
  any : {call : How} → is_receive call ≡ true → IsTag call 0 (token.Key key.Any ∷ []) tag.Any

-- [ on NAME ]
pub data IsOn : List Token → Option (List ℕ) → Type 0 where
  world : IsOn [] None
  on : (name : List ℕ) → IsOn (token.Key key.On ∷ token.Name name ∷ []) (Some name)

-- [ status SPAN ]
pub data IsStatus : ℕ → List Token → Option SpanText → Type 0 where
  none : IsStatus 0 [] None
  some : {d : ℕ} {ts : List Token} {span : SpanText} → IsSpan d ts span → IsStatus d (token.Key key.Status ∷ ts) (Some span)

-- NAME { , NAME }
pub data AreNames : List Token → List (List ℕ) → Type 0 where
  one : (name : List ℕ) → AreNames (token.Name name ∷ []) (name ∷ [])
  more : {ts : List Token} {names : List (List ℕ)} (name : List ℕ) → AreNames ts names → AreNames (token.Name name ∷ token.Sign sign.Comma ∷ ts) (name ∷ names)

-- SPAN { , SPAN }
pub data AreSpans : ℕ → List Token → List SpanText → Type 0 where
  one : {d : ℕ} {ts : List Token} {span : SpanText} → IsSpan d ts span → AreSpans d ts (span ∷ [])
  more : {c d : ℕ} {xs ys : List Token} {span : SpanText} {spans : List SpanText} → IsSpan c xs span → AreSpans d ys spans
      → AreSpans (max c d) (xs ++ token.Sign sign.Comma ∷ ys) (span ∷ spans)

-- { , expr }
pub data AreValues : ℕ → List Token → List Term → Type 0 where
  none : AreValues 0 [] []
  more : {c d : ℕ} {xs ys : List Token} {e : Term} {es : List Term} → Is 0 c xs e → AreValues d ys es
      → AreValues (max c d) (token.Sign sign.Comma ∷ (xs ++ ys)) (e ∷ es)

-- the word of an access line
abbrev pub access_key : Mode → Key
access_key mode.In = key.In
access_key mode.Out = key.Out
access_key mode.Inout = key.Inout

-- the word of a send or a receive
abbrev pub call_key : How → Key
call_key how.Send = key.Send
call_key how.Ssend = key.Ssend
call_key how.Recv = key.Recv
call_key how.Isend = key.Isend
call_key how.Issend = key.Issend
call_key how.Irecv = key.Irecv

-- the word of a wait for one request, which waits in the body or only binds
abbrev pub wait_key : Bool → Key
wait_key false = key.Wait
wait_key true = key.Iwait

-- the word of a wait for several requests, which waits in the body or only binds
abbrev pub waitall_key : Bool → Key
waitall_key false = key.Waitall
waitall_key true = key.Iwaitall

-- the word of a kernel
abbrev pub kernel_key : Kernel → Key
kernel_key kernel.Fill = key.Fill
kernel_key kernel.Ramp = key.Ramp
kernel_key kernel.Copy = key.Copy
kernel_key kernel.Add = key.Add
kernel_key kernel.Sub = key.Sub
kernel_key kernel.Scale = key.Scale
kernel_key kernel.Shift = key.Shift
kernel_key kernel.Jacobi2 = key.Jacobi2
kernel_key kernel.Sum = key.Sum
kernel_key kernel.Least = key.Least
kernel_key kernel.Greatest = key.Greatest

-- whether the call has a status of its own
abbrev pub has_status : How → Bool
has_status how.Send = false
has_status how.Ssend = false
has_status how.Recv = true
has_status how.Isend = false
has_status how.Issend = false
has_status how.Irecv = false

-- the handle of a call that doesn't wait: NAME ,
pub data IsHandle : How → List Token → Option (List ℕ) → Type 0 where
  none : {call : How} → blocks call ≡ true → IsHandle call [] None
  some : {call : How} (name : List ℕ) → blocks call ≡ false → IsHandle call (token.Name name ∷ token.Sign sign.Comma ∷ []) (Some name)

-- the status of a call: [ status SPAN ] in `recv`
pub data HasStatus : How → ℕ → List Token → Option SpanText → Type 0 where
  none : {call : How} → HasStatus call 0 [] None
  some : {call : How} {d : ℕ} {ts : List Token} {span : SpanText} → has_status call ≡ true → IsSpan d ts span
      → HasStatus call d (token.Key key.Status ∷ ts) (Some span)

-- a list as it is made from a vector
abbrev pub listed : {T : Type 0} → List T → Listing T
listed items = record { items = items; room = 0 }

-- the tokens of a line say this
pub data IsStatement : ℕ → List Token → What → Type 0 where
  array : {d : ℕ} {ts : List Token} {len : Term} (name : List ℕ) → Is 0 d ts len
      → IsStatement d (token.Key key.Array ∷ token.Name name ∷ token.Sign sign.Comma ∷ ts) (what.Array name len)
  show : (name : List ℕ) → IsStatement 0 (token.Key key.Show ∷ token.Name name ∷ []) (what.Show name)
  comm : (name : List ℕ) → IsStatement 0 (token.Key key.Comm ∷ token.Name name ∷ []) (what.Comm name)
  setting : {d : ℕ} {ts : List Token} {value : Term} (name : List ℕ) → Is 0 d ts value
      → IsStatement d (token.Key key.Let ∷ token.Name name ∷ token.Sign sign.Set ∷ ts) (what.Let name value)
  loop : {c d : ℕ} {xs ys : List Token} {from to : Term} (name : List ℕ) → Is 0 c xs from → Is 0 d ys to
      → IsStatement (max c d) (token.Key key.For ∷ token.Name name ∷ token.Sign sign.Set ∷ (xs ++ token.Sign sign.Dots ∷ ys)) (what.For name from to)
  when : {d : ℕ} {ts : List Token} {test : Term} → Is 0 d ts test → IsStatement d (token.Key key.If ∷ ts) (what.If test)
  otherwise : IsStatement 0 (token.Key key.Else ∷ []) what.Else
  closing : IsStatement 0 (token.Key key.End ∷ []) what.End
  taskwait : IsStatement 0 (token.Key key.Taskwait ∷ []) what.Taskwait
  task : IsStatement 0 (token.Key key.Task ∷ []) what.Task
  access : {d : ℕ} {ts : List Token} {span : SpanText} (kind : Mode) → IsSpan d ts span
      → IsStatement d (token.Key (access_key kind) ∷ ts) (what.Touch kind span)
  body : IsStatement 0 (token.Key key.Do ∷ []) what.Do
  computing : {c d : ℕ} {xs ys : List Token} {spans : List SpanText} {values : List Term} (name : Kernel)
      → AreSpans c xs spans → length spans ≡ 1 + source_count name → AreValues d ys values → length values ≡ number_count name
      → IsStatement (max c d) (token.Key (kernel_key name) ∷ (xs ++ ys)) (what.Kern name (listed spans) (listed values))
  posting : {a b c d : ℕ} {hs xs ys zs os ss : List Token} {handle comm : Option (List ℕ)} {span : SpanText} {whom : PeerText} {number : TagText}
      {status : Option SpanText} (call : How)
      → IsHandle call hs handle → IsSpan a xs span → IsPeer call b ys whom → IsTag call c zs number → IsOn os comm → HasStatus call d ss status
      → IsStatement (max a (max b (max c d)))
      (token.Key (call_key call) ∷ (hs ++ (xs ++ token.Sign sign.Comma ∷ (ys ++ token.Sign sign.Comma ∷ (zs ++ (os ++ ss))))))
      (what.Posting call handle span whom number comm status)
  wait : {d : ℕ} {ts : List Token} {status : Option SpanText} (later : Bool) (name : List ℕ) → IsStatus d ts status
      → IsStatement d (token.Key (wait_key later) ∷ token.Name name ∷ ts) (what.Waiting later (listed (name ∷ [])) status)
  waitall : {d : ℕ} {xs ts : List Token} {names : List (List ℕ)} {status : Option SpanText} (later : Bool)
      → AreNames xs names → length names ≤ 64 → IsStatus d ts status
      → IsStatement d (token.Key (waitall_key later) ∷ (xs ++ ts)) (what.Waiting later (listed names) status)
