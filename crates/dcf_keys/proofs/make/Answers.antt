use Rattle.dcf_keys.proofs.Levels.{bit_lt, none_made, one_more, all_made}
use Rattle.std.proofs.Common.{rules}
use Rattle.dcf_keys.proofs.make.Goals as goal

pub loop-i-init : goal.loop-i-init
loop-i-init c = none_made _ _ _ _ (search rules)

pub correction-c-requires : goal.correction-c-requires
correction-c-requires c =
    bit_lt _ _ c.level_bit-b.ensures

pub kept-g-requires : goal.kept-g-requires
kept-g-requires c =
    bit_lt _ _ c.level_bit-b.ensures

pub loop-i-preserved : goal.loop-i-preserved
loop-i-preserved c =
    one_more c.args.k0 c.args.k1 c.args.point _ (search rules)
    c.loop-i.corrections c.loop-i.g c.kept-g.result c.loop-i.i
    c.level_bit-b.result c.correction-c.result _ c.loop-i.invariant (search rules)
    c.level_bit-b.ensures c.open_both.ensures c.correction-c.ensures
    c.kept-g.ensures

pub returns : goal.returns
returns c =
    all_made c.args.k0 c.args.k1 c.args.point _ (search rules)
    c.loop-i.corrections c.loop-i.g c.loop-i.i c.final_word-last.result
    c.loop-i.invariant (search rules) c.final_word-last.ensures
