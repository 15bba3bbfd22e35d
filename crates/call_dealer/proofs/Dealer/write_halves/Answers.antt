use native.Mathlib.Omega.{arith}
use Rattle.measure_table.specs.Laws.{length_fits_lem}
use Rattle.call_dealer.specs.Dealer.{key_of}
use Rattle.call_dealer.specs.Laws.{deal_tells}
use Rattle.call_dealer.proofs.Laws.{half_asks, is_half}
use Rattle.call_dealer.proofs.Dealer.write_halves.Goals as goal

pub bytes_32-seed-requires : goal.bytes_32-seed-requires
bytes_32-seed-requires c = (deal_tells _ _ _ _ c.requires).seeded

pub sets-dealt-requires : goal.sets-dealt-requires
sets-dealt-requires c =
    (length_fits_lem c.args.order.terms (deal_tells _ _ _ _ c.requires).length_fits_lem).1

pub write_half-requires : goal.write_half-requires
write_half-requires c =
    let fits = deal_tells _ _ _ _ c.requires in
    let asks =
    half_asks _ _ _ _ fits 0 _ c.bytes_32-seed.ensures _ c.sets-dealt.ensures.0 _ fits.room_0
    (omega arith) (omega arith) in
    record { party_bound = asks.0; proper = asks.1 }

pub write_half-requires-2 : goal.write_half-requires-2
write_half-requires-2 c =
    let fits = deal_tells _ _ _ _ c.requires in
    let asks =
    half_asks _ _ _ _ fits 1 _ c.bytes_32-seed.ensures _ c.sets-dealt.ensures.1 _ fits.room_1
    (omega arith) (omega arith) in
    record { party_bound = asks.0; proper = asks.1 }

pub returns : goal.returns
unfolding key_of
returns c =
    let fits = deal_tells _ _ _ _ c.requires in
    record {
      out0_after =
          is_half _ _ _ _ fits 0 _ c.bytes_32-seed.ensures _ c.sets-dealt.ensures.0 _ _ c.write_half.ensures;
      out1_after =
          is_half _ _ _ _ fits 1 _ c.bytes_32-seed.ensures _ c.sets-dealt.ensures.1 _ _ c.write_half-2.ensures;
    }
