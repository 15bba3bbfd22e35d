use lib.ListN.{get_or}
use mir.Syntax.{w32}
use mir.Val.{Fits}
use Rattle.poly1305_mac.proofs.Bytes.{tag_law}
use Rattle.std.proofs.Common.{rules}
use Rattle.poly1305_mac.proofs.tag.Goals as goal

pub returns : goal.returns
returns c =
    let t = c.add_s-t.result in
    let f0 : Fits w32 (get_or t 0 0) = search rules in
    let f1 : Fits w32 (get_or t 1 0) = search rules in
    let f2 : Fits w32 (get_or t 2 0) = search rules in
    let f3 : Fits w32 (get_or t 3 0) = search rules in
    tag_law t _ _ (search rules) f0.fits f1.fits f2.fits f3.fits c.store_all.ensures c.remainder-a.ensures
    c.add_s-t.ensures
