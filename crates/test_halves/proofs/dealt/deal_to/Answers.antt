use Rattle.measure_table.specs.Laws.{length_fits_lem}
use Rattle.half_content.specs.Laws.{code_byte, flag_bytes, mark_byte}
use Rattle.half_content.proofs.Laws.{few_blocks}
use native.Mathlib.Omega.{arith}
use Rattle.test_halves.proofs.dealt.deal_to.Goals as goal

pub write_half-requires : goal.write_half-requires
write_half-requires c =
    let proper = c.requires.proper in
    record {
      party_bound = (omega (arith, c.requires.party_bound), omega (arith, few_blocks _ proper));
      proper = proper;
    }

pub lay_out-plain-requires : goal.lay_out-plain-requires
lay_out-plain-requires c =
    let proper = c.requires.proper in record {
      party_bound =
          (omega (arith, c.requires.party_bound), code_byte _ proper, (length_fits_lem _ proper.length_fits_lem).1);
      flag_bytes = flag_bytes _ proper;
      mark_bound = mark_byte _ proper;
    }

pub blocks_of-requires : goal.blocks_of-requires
blocks_of-requires c =
    omega (arith, length_fits_lem _ c.requires.proper.length_fits_lem)

pub invariant_of-result : goal.invariant_of-result
invariant_of-result c =
    omega (arith, c.blocks_of.ensures, few_blocks _ c.requires.proper)
