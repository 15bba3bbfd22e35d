use Rattle.measure_table.specs.Laws.{length_fits_lem}
use Rattle.test_halves.proofs.Laws.{dealt_proper}
use native.Mathlib.Omega.{arith}
use Rattle.std.proofs.Common.{rules}
use Rattle.test_halves.proofs.dealt.deal_in_range.Goals as goal

pub sets-sets-requires : goal.sets-sets-requires
sets-sets-requires c =
    (length_fits_lem c.args.terms c.requires.2).1

pub deal_to-requires : goal.deal_to-requires
deal_to-requires c =
    let pre = c.requires in record {
      party_bound = pre.0;
      proper = dealt_proper _ 0 _ c.sets-sets.ensures.0 (search rules) pre.1 pre.2 pre.3 (omega arith);
    }

pub deal_to-requires-2 : goal.deal_to-requires-2
deal_to-requires-2 c =
    let pre = c.requires in record {
      party_bound = pre.0;
      proper = dealt_proper _ 1 _ c.sets-sets.ensures.1 (search rules) pre.1 pre.2 pre.3 (omega arith);
    }
