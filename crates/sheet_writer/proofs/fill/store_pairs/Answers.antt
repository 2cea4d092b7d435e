-- Each turn stores two pairs more; where the count is odd, one is left behind the turns.
use Prim.Native.Nat.{◌+◌, ◌*◌, ◌-◌}
use mathlib.Core.Path.{◌≡◌, ◌∙◌}
use native.Mathlib.Omega.{arith}
use Rattle.sheet_writer.proofs.Pairs.{next_pair}
use Rattle.sheet_writer.proofs.fill.store_pairs.Goals as goal

pub loop-i-preserved : goal.loop-i-preserved
loop-i-preserved c =
    let two_more : 2 * (c.loop-i.i + 1) ≡ 2 * c.loop-i.i + 1 + 1 = omega arith in
    let first = next_pair _ _ _ _ _ (2 * c.loop-i.i) c.requires.within (omega arith) c.loop-i.invariant in
    rw two_more (c.store_two.ensures ∙ next_pair _ _ _ _ _ (2 * c.loop-i.i + 1) c.requires.within (omega arith) first)

pub returns-then-blocks-ne0 : goal.returns-then-blocks-ne0
returns-then-blocks-ne0 c =
    let passed : 2 * c.loop-i.i ≡ c.args.blocks.count - 1 = omega arith in
    let all : c.args.blocks.count ≡ c.args.blocks.count - 1 + 1 = omega arith in
    rw all (c.store_one.ensures ∙ next_pair _ _ _ _ _ (c.args.blocks.count - 1) c.requires.within (omega arith) (rw passed at c.loop-i.invariant))
