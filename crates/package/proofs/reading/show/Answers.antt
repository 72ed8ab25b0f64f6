-- `package::show` meets its contract.
use mathlib.Core.Path.{refl, ◌∙◌}
use Rattle.package.proofs.Filling.{in_front}
use Rattle.package.proofs.reading.show.Goals as goal

pub returns : goal.returns
returns c = (
  c.show_entries.ensures ∙ rw c.outline_of.ensures.3 refl,
  in_front c.args.places.now _ c.requires.1,
  in_front c.args.summaries.now _ c.requires.2,
)
