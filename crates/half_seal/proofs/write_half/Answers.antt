use native.Mathlib.Omega.{arith}
use Rattle.measure_table.specs.Laws.{length_fits_lem}
use Rattle.half_content.specs.Laws.{code_byte, flag_bytes, mark_byte}
use Rattle.half_content.proofs.Laws.{few_blocks}
use Rattle.half_seal.proofs.Laws.{half_law}
use Rattle.std.proofs.Common.{rules}
use Rattle.half_seal.proofs.write_half.Goals as goal

pub blocks_of-count-requires : goal.blocks_of-count-requires
blocks_of-count-requires c =
    omega (arith, length_fits_lem c.args.s.terms c.requires.proper.length_fits_lem)

pub lay_out-p-requires : goal.lay_out-p-requires
lay_out-p-requires c =
    let s = c.args.s in
    let proper = c.requires.proper in
    record {
      party_bound = (c.requires.party_bound.0, code_byte s proper, (length_fits_lem s.terms proper.length_fits_lem).1);
      flag_bytes = flag_bytes s proper;
      mark_bound = mark_byte s proper;
    }

pub write_blocks-requires : goal.write_blocks-requires
write_blocks-requires c =
    let a = c.args in
    let few = (few_blocks a.s c.requires.proper).1 in
    let count = c.blocks_of-count.ensures in
    (rw count few, omega (arith, count, few), omega (arith, count))

pub returns : goal.returns
returns c =
    let a = c.args in
    half_law a.key.now a.name a.party a.s (search rules) c.requires.proper c.lay_out-p.result _ _
    c.blocks_of-count.result c.lay_out-p.ensures (search rules) c.blocks_of-count.ensures
    c.write_blocks.ensures
