use Rattle.aead_seal.proofs.Tags.{tag_law}
use Rattle.aead_seal.proofs.tag_by.Goals as goal

pub returns : goal.returns
returns c =
    let args = c.args in
    tag_law _ args.aad.now args.text.now _ _ _ _ _ _ c.key-halves.ensures.r_value
    c.key-halves.ensures.s_value c.lengths-both.ensures
    c.absorb_padded-a.ensures c.absorb_text-c.ensures c.tag.ensures
