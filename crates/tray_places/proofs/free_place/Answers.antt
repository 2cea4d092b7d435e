-- The first place that passes.
use Prim.Native.Nat.{ℕ}
use mathlib.Core.Path.{◌∙◌}
use mathlib.Core.List.{List}
use borrow.Author.Rules.{rules}
use borrow.Author.Tests.{tests}
use Rattle.std.proofs.lemmas.Iterator.{YieldsList-from_slice}
use Rattle.std.proofs.lemmas.Iterator.Search.{position_from_yields_List}
use Rattle.tray_places.specs.Places.{places_in, is_free}
use Rattle.tray_places.proofs.Searches.{first_free}
use Rattle.tray_places.proofs.free_place.Goals as goal

pub returns : goal.returns
returns c =
    let tray = c.args.tray.now in
    position_from_yields_List (λ (xs : List ℕ). is_free xs 0) _ _ c.position.result c.position.ensures.ran (YieldsList-from_slice (places_in tray) (cc))
    (λ x b q k. search (rules, tests))
    ∙ first_free tray
