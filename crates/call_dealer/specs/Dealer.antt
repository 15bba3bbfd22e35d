-- The dealer (01, "Dealing a set", "The sealed half" and "When a call is turned down"; 02, §4): why a start or a deal
-- is turned down, the next state, and what a deal leaves in its two lent buffers, for any state and anything handed in.
-- One definition has both deals, by a threshold and between two marks: the rule says which. Clock has the deal by the
-- clock. Assumes nothing.
-- [SPEC 13.1, 13.2, 13.4, 13.5, 14.1 to 14.4, 24.1, 24.4]
use Rattle.std.specs.Prelude.{cond, ◌&&◌, not, List, ℕ, ◌*◌, eqb, leb, ltb, length, replicate}
use Rattle.base_words.specs.List.{over, same}
use Rattle.measure_table.specs.declared.Terms.{Terms}
use Rattle.measure_table.specs.Measure.{is_code, length_fits, rule_fits, in_order}
use Rattle.base_messages.specs.Messages.{bad_name, bad_party_or_code, wrong_length, short_buffer, wrong_number}
use Rattle.base_messages.specs.Messages.{out_of_range}
use Rattle.base_messages.specs.Messages.{equal_keys, bad_marks, camera_party, unless, if_taken, name_fits, padded}
use Rattle.base_messages.specs.Messages.{is_key}
use Rattle.half_content.specs.Content.{block_bytes, block_count}
use Rattle.half_deal.specs.Dealing.{Deal, deal_from, dealt_set}
use Rattle.half_seal.specs.Half.{half}
use Rattle.call_dealer.specs.declared.Dealer.{Dealer}
use Rattle.call_dealer.specs.declared.DealerAnswer.{DealerAnswer}
use Rattle.call_dealer.specs.declared.Order.{Order}

unfoldable pub no_dealer : Dealer
no_dealer = record { name = replicate 16 0; key0 = replicate 32 0; key1 = replicate 32 0; last = 0 }

-- what a call answers: why not, and the state that follows. A refused one leaves the state as it was.
abbrev pub answered : ℕ → Dealer → Dealer → DealerAnswer
answered why next s = record { why = why; dealer = if_taken why next s }

unfoldable pub why_not_dealer : List ℕ → List ℕ → List ℕ → ℕ
why_not_dealer name key0 key1 =
    unless (name_fits name) bad_name
    (unless (is_key key0 && is_key key1) wrong_length (unless (not (same key0 key1)) equal_keys 0))

unfoldable pub start_dealer : List ℕ → List ℕ → List ℕ → ℕ → DealerAnswer
start_dealer name key0 key1 floor =
    answered (why_not_dealer name key0 key1)
    (record { name = padded name; key0 = key0; key1 = key1; last = floor })
    no_dealer

-- a deal from what code has of it
abbrev pub deal_in : Order → Deal
deal_in o = deal_from o.number o.seed.now o.terms o.rule

-- how many bytes a half has
unfoldable pub half_size : ℕ → ℕ
half_size n = block_bytes * block_count n

-- what every deal is tested for before its rule, where its two buffers have this many bytes; then `rest` decides
abbrev pub until_rule : Dealer → ℕ → List ℕ → Terms → ℕ → ℕ → ℕ → ℕ
until_rule s number seed terms room0 room1 rest =
    unless (is_code terms.code) bad_party_or_code
    (unless (is_key seed && length_fits terms) wrong_length
    (unless (leb (half_size terms.n) room0 && leb (half_size terms.n) room1) short_buffer
    (unless (ltb s.last number) wrong_number rest)))

-- why a deal is turned down. 13 is "tested after 8", and no threshold is turned down by it (Laws.`never-marks`).
unfoldable pub why_not_deal : Dealer → Deal → ℕ → ℕ → ℕ
why_not_deal s d room0 room1 =
    until_rule s d.number d.seed d.terms room0 room1
    (unless (rule_fits d.terms d.rule) out_of_range (unless (in_order d.rule) bad_marks 0))

unfoldable pub key_of : Dealer → ℕ → List ℕ
key_of s party = cond (eqb party camera_party) s.key0 s.key1

-- the half that a deal writes for a party
unfoldable pub half_for : Dealer → Deal → ℕ → List ℕ
half_for s d party = half (key_of s party) s.name party (dealt_set d party)

-- the state after an accepted deal of this number
abbrev pub next_dealer : Dealer → ℕ → Dealer
next_dealer s number = record { name = s.name; key0 = s.key0; key1 = s.key1; last = number }

-- what a deal leaves in the two buffers, where this is why it is turned down
abbrev pub out_buffer : ℕ → Dealer → Deal → List ℕ → List ℕ → ℕ → List ℕ
out_buffer why s d out0 out1 party =
    let out : List ℕ = cond (eqb party camera_party) out0 out1 in if_taken why (over 0 (half_for s d party) out) out

unfoldable pub deal : Dealer → Deal → ℕ → ℕ → DealerAnswer
deal s d room0 room1 = answered (why_not_deal s d room0 room1) (next_dealer s d.number) s

unfoldable pub deal_out : Dealer → Deal → List ℕ → List ℕ → ℕ → List ℕ
deal_out s d out0 out1 party = out_buffer (why_not_deal s d (length out0) (length out1)) s d out0 out1 party
