use Rattle.std.proofs.Common.{map}
use Rattle.call_words.specs.Reading.{item_of}
use Rattle.call_words.proofs.ItemLemmas.{commanded}
use Rattle.call_words.proofs.command.command_of_items.Goals as goal

pub returns-clause-value : goal.returns-clause-value
returns-clause-value c =
    commanded c.args.verb (map item_of c.args.items.now) c.are_known.result c.run_options-runs.result c.heat_options-sizes.result c.command_with.result
    c.are_known.ensures c.if-not-are_known.false c.run_options-runs.ensures.value c.heat_options-sizes.ensures.value c.command_with.ensures.value
