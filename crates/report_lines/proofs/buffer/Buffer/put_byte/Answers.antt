use Rattle.std.proofs.Common.{◌≡◌, ◌++◌, ◌∷◌, [], ◌+◌, length, refl, arith, rules, ap, ◌∙◌}
use Rattle.report_lines.specs.Writing.{Waiting}
use Rattle.report_lines.proofs.Handing.{piece_went, piece_failed, filled}
use Rattle.report_lines.proofs.buffer.Buffer.put_byte.Goals as goal

pub returns-in-All : goal.returns-in-All
returns-in-All g c =
    let last : c.self.inside.len + 1 ≡ length c.self.inside.bytes = omega arith in
    let piece = filled c.self.inside.bytes c.self.inside.len c.args.byte last in
    let whole = piece ∙ ap (λ (one : Waiting). one.pending ++ c.args.byte ∷ []) c.self.view_is in
    piece_went _ _ _ _ c.args.self.now _ c.args.byte _ (search rules) whole refl
    (search rules) c.in-All.ensures.bytes c.in-All.ensures.cause.later

pub returns-in-Failed : goal.returns-in-Failed
returns-in-Failed g c =
    let last : c.self.inside.len + 1 ≡ length c.self.inside.bytes = omega arith in
    let piece = filled c.self.inside.bytes c.self.inside.len c.args.byte last in
    let whole = piece ∙ ap (λ (one : Waiting). one.pending ++ c.args.byte ∷ []) c.self.view_is in
    piece_failed _ _ _ _ c.args.self.now _ c.args.byte _ (search rules) whole refl
    c.in-Failed.ensures.bytes c.in-Failed.ensures.cause.later (c.in-Failed.ensures.cause.failed refl)
