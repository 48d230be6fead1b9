-- What the last move of the book opened is what that of its list did.
use Rattle.std.proofs.Common.{ap, ◌∙◌, List, slice_get}
use Rattle.rt_base.specs.declared.data.ReqNo.{ReqNo}
use Rattle.shared_lists.specs.Deeds.{opened_seen}
use Rattle.listed_book.specs.Listed.{BookIs}
use Rattle.listed_book.proofs.Insides.{insides_of}
use Rattle.listed_book.proofs.Keeping.{opened_here}
use Rattle.listed_book.proofs.listed.ListedBook.open_request.Goals as goal

pub returns : goal.returns
returns c =
    c.open_request.ensures ∙ ap (λ (reqs : List ReqNo). slice_get reqs c.args.i) (opened_here (insides_of c.self.inside) c.self.invariant)
    ∙ ap (λ (b : BookIs). slice_get (opened_seen b.program b.seen) c.args.i) c.self.view_is
