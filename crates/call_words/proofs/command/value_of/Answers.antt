use Rattle.std.proofs.Common.{IfSome, sym, subst}
use Rattle.call_words.specs.Options.{Choice}
use Rattle.call_words.specs.Reading.{Lies}
use Rattle.call_words.proofs.ItemLemmas.{default_lies}
use Rattle.call_words.proofs.command.value_of.Goals as goal

pub setting-requires : goal.setting-requires
setting-requires c = record {
  default = subst (λ (choice : Choice). IfSome (choice.default c.args.verb) (Lies choice.takes)) (sym c.row.ensures) (default_lies c.args.verb c.args.option);
}
