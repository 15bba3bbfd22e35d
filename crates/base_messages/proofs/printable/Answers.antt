use mathlib.Core.Path.{◌≡◌, refl, sym, ap, ◌∙◌}
use mathlib.Core.Bool.{Bool, ◌&&◌}
use native.Mathlib.Omega.{arith}
use lib.Dec.{leb}
use lib.ListN.{length, get_or}
use Rattle.base_messages.specs.Messages.{printable}
use Rattle.base_messages.proofs.Names.{printable_more, printable_whole}
use Rattle.base_messages.proofs.printable.Goals as goal

pub loop-byte-init : goal.loop-byte-init
unfolding printable
loop-byte-init c = refl

pub loop-byte-preserved : goal.loop-byte-preserved
loop-byte-preserved c =
    let at = c.loop-byte in
    let name = c.args.name.now in
    let byte = get_or name at.byte-index 0 in
    ap (λ (t : Bool). t && (leb 32 byte && leb byte 126)) at.invariant
    ∙ sym (printable_more name at.byte-index (omega arith))

pub returns : goal.returns
returns c =
    let all : c.loop-byte.byte-index ≡ length c.args.name.now = omega arith in
    c.loop-byte.invariant ∙ printable_whole _ _ all
