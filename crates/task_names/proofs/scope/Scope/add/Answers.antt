use Rattle.std.proofs.Common.{ap, ◌∙◌}
use Rattle.std.specs.Map.{lookup}
use Rattle.std.specs.Str.{bytes_eq}
use Rattle.task_names.proofs.Undone.{added}
use Rattle.task_names.proofs.scope.Scope.add.Goals as goal

pub returns-clause-before : goal.returns-clause-before
returns-clause-before c =
    let was = c.self.inside in
    added was.log c.add_place.new.self was.mark was.names.entries c.insert.new.self.entries c.args.self.now.before c.args.name c.args.meaning
    c.add_place.ensures c.in_ok-insert.ensures.entries (ap (λ s. lookup (bytes_eq c.args.name) s.names) c.self.view_is
    ∙ c.requires) c.self.invariant (ap (λ s. s.before) c.self.view_is)
