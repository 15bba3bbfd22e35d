use Rattle.half_seal.specs.Laws.{length_header}
use lib.ListN.{length}
use native.Mathlib.Omega.{arith}
use mathlib.Core.List.{[]}
use mathlib.Core.Path.{sym, ap, ◌∙◌}
use Rattle.aead_seal.specs.Aead.{poly_key}
use Rattle.half_seal.proofs.Laws.{length_tag_is, length_put, has_tag, write_law, is_block}
use Rattle.half_seal.proofs.write_block.Goals as goal

pub seal_by-sealed-requires : goal.seal_by-sealed-requires
seal_by-sealed-requires c =
    c.requires.once_value ∙ ap (poly_key c.args.key.now) (sym c.header-h.ensures)

pub unwrap-tag-requires : goal.unwrap-tag-requires
unwrap-tag-requires c =
    has_tag c.args.key.now c.header-h.result c.args.text.now c.args.out.now
    (ap length c.header-h.ensures ∙ length_header _ _) c.requires.text_len.0 c.requires.text_len.1
    c.copy.new.dst c.copy-2.new.dst c.seal_by-sealed.new.text [] c.seal_by-sealed.result []
    c.copy.ensures c.copy-2.ensures c.seal_by-sealed.ensures.value

pub copy-requires-3 : goal.copy-requires-3
copy-requires-3 c =
    let args = c.args in
    let size = ap length c.header-h.ensures ∙ length_header _ _ in
    omega (
      arith,
      length_tag_is args.key.now c.header-h.result args.text.now
          args.out.now size c.requires.text_len.0 c.requires.text_len.1 c.copy.new.dst
          c.copy-2.new.dst c.seal_by-sealed.new.text [] c.seal_by-sealed.result c.unwrap-tag.result
          c.copy.ensures c.copy-2.ensures c.seal_by-sealed.ensures.value c.unwrap-tag.ensures,
      length_put args.key.now c.header-h.result args.text.now args.out.now size
          c.requires.text_len.0 c.requires.text_len.1 c.copy.new.dst c.copy-2.new.dst
          c.seal_by-sealed.new.text [] c.seal_by-sealed.result []
          c.copy.ensures c.copy-2.ensures c.seal_by-sealed.ensures.text_after,
    )

pub returns : goal.returns
returns c =
    let args = c.args in
    write_law args.key.now c.header-h.result args.text.now args.out.now
    (ap length c.header-h.ensures ∙ length_header _ _) c.requires.text_len.0 c.requires.text_len.1
    c.copy.new.dst c.copy-2.new.dst c.seal_by-sealed.new.text
    c.copy-3.new.dst c.seal_by-sealed.result c.unwrap-tag.result c.copy.ensures c.copy-2.ensures
    c.seal_by-sealed.ensures.text_after c.seal_by-sealed.ensures.value c.unwrap-tag.ensures c.copy-3.ensures
    ∙ is_block args.key.now c.header-h.result args.text.now
    args.out.now (ap length c.header-h.ensures ∙ length_header _ _)
    c.requires.text_len.0 c.requires.text_len.1 _ _ c.header-h.ensures
