use mathlib.Core.Path.{◌≡◌, sym, ap}
use mathlib.Core.Bool.{Bool, true, false, ◌&&◌, and-false}
use borrow.Author.Tests.{lt-leb, le-leb}
use lib.Dec.{leb}
use lib.ListN.{length}
use Rattle.base_messages.specs.Messages.{name_fits}
use Rattle.base_messages.proofs.name_fits.Goals as goal

-- too long, and not read
pub returns-then-not-name : goal.returns-then-not-name
unfolding name_fits
returns-then-not-name c =
    let name = c.args.name.now in
    let long : leb (length name) 16 ≡ false = lt-leb _ _ c.if-not-name.true in
    rw long (sym (and-false (leb 1 (length name))))

pub returns : goal.returns
unfolding name_fits
returns c =
    let name = c.args.name.now in
    let short : leb (length name) 16 ≡ true = le-leb _ _ c.if-not-name.false in
    rw short (ap (λ (t : Bool). leb 1 (length name) && t) c.printable.ensures)
