-- A refusal changes nothing (01, "When a call is turned down"), over every call on any states, whatever is handed in.
-- No proof stands here. Assumes nothing. [SPEC 22.4]
use Rattle.std.specs.Prelude.{◌≡◌, false, List, [], ◌∷◌, ℕ, ◌<◌, length, replicate}
use Rattle.base_messages.specs.Messages.{camera_party, office_party, out_of_turn, bad_rows}
use Rattle.call_dealer.specs.Dealer as DealerCalls
use Rattle.call_dealer.specs.Clock as ClockCalls
use Rattle.call_party.specs.declared.TrialAnswer.{TrialAnswer}
use Rattle.call_party.specs.Party as BoxCalls
use Rattle.call_lock.specs.Lock as LockCalls
use Rattle.door_lists.specs.Lists.{Box, World, Message, Call, deal, deal_by_clock, load, trial, mask, take}
use Rattle.door_lists.specs.Lists.{finish, drop, join, refused, step}

-- the buffers lent to a call
abbrev pub lent : Call → List (List ℕ)
lent (deal d out0 out1) = out0 ∷ out1 ∷ []
lent (deal_by_clock k out0 out1) = out0 ∷ out1 ∷ []
lent (load b h) = []
lent (trial b h) = []
lent (mask b v out) = out ∷ []
lent (take b m) = []
lent (finish b m) = []
lent (drop b) = []
lent (join m n) = []

-- the same buffers after it, by the definitions that the contracts name: "each lent byte afterwards can be worked out"
-- [SPEC 29.1]
abbrev pub lent_after : World → Call → List (List ℕ)
lent_after w (deal d out0 out1) =
    DealerCalls.deal_out w.dealer d out0 out1 camera_party
    ∷ DealerCalls.deal_out w.dealer d out0 out1 office_party ∷ []
lent_after w (deal_by_clock k out0 out1) =
    ClockCalls.clock_out w.dealer k out0 out1 camera_party
    ∷ ClockCalls.clock_out w.dealer k out0 out1 office_party ∷ []
lent_after w (load b h) = []
lent_after w (trial b h) = []
lent_after w (mask b v out) = BoxCalls.mask_out (w.box b) v out ∷ []
lent_after w (take b m) = []
lent_after w (finish b m) = []
lent_after w (drop b) = []
lent_after w (join m n) = []

-- the word or the bit that the answer has beside its number
abbrev pub said : World → Call → ℕ
said w (deal d out0 out1) = 0
said w (deal_by_clock k out0 out1) = 0
said w (load b h) = (BoxCalls.load (w.box b) h).word
said w (trial b h) = 0
said w (mask b v out) = (BoxCalls.mask (w.box b) v (length out)).word
said w (take b m) = (BoxCalls.take_vector (w.box b) m.label m.name m.content).word
said w (finish b m) = (BoxCalls.finish (w.box b) m.label m.name m.content).word
said w (drop b) = (BoxCalls.drop_set (w.box b)).word
said w (join m n) =
    (LockCalls.join w.lock m.label m.name m.content n.label n.name n.content).bit

-- the place that a deal by the clock has there
abbrev pub placed : World → Call → ℕ
placed w (deal d out0 out1) = 0
placed w (deal_by_clock k out0 out1) = (ClockCalls.deal_by_clock w.dealer k (length out0) (length out1)).place
placed w (load b h) = 0
placed w (trial b h) = 0
placed w (mask b v out) = 0
placed w (take b m) = 0
placed w (finish b m) = 0
placed w (drop b) = 0
placed w (join m n) = 0

abbrev pub none_told : List ℕ
none_told = 0 ∷ 0 ∷ replicate 16 0

-- the code, the L and the door's name that a trial has there
abbrev pub told : World → Call → List ℕ
told w (deal d out0 out1) = none_told
told w (deal_by_clock k out0 out1) = none_told
told w (load b h) = none_told
told w (trial b h) =
    let a : TrialAnswer = BoxCalls.trial (w.box b) h in
    a.terms.code ∷ a.terms.n ∷ a.name
told w (mask b v out) = none_told
told w (take b m) = none_told
told w (finish b m) = none_told
told w (drop b) = none_told
told w (join m n) = none_told

-- "The answer is the number alone; no state and no byte changes." 02, §5: "every refusal but 14 to 16 has place 0"
-- [SPEC 14.6, 22.3, 22.4]
pub record NothingChanges (w : World) (c : Call) (why : ℕ) : Type 0 where
  pub a_number : why ≡ 0 → ⊥
  pub same_states : (step w c).world ≡ w
  pub same_bytes : lent_after w c ≡ lent c
  pub nothing_said : said w c ≡ 0
  pub no_place : why < bad_rows → placed w c ≡ 0
  pub nothing_told : told w c ≡ none_told

unfoldable pub RefusalsChangeNothing : Type 0
RefusalsChangeNothing = (w : World) (c : Call) (why : ℕ) → (step w c).event ≡ refused why → NothingChanges w c why

-- 3: "or the state handed in holds a phase or party, or at its phase a code or L, that no call leaves", and 02, §1, of
-- the waiting set: such a box refuses every call by 3, drop included [SPEC 23.3]
pub record AllOutOfTurn (w : World) (b : Box) : Type 0 where
  pub no_load : (h : List ℕ) → (step w (load b h)).event ≡ refused out_of_turn
  pub no_trial : (h : List ℕ) → (step w (trial b h)).event ≡ refused out_of_turn
  pub no_mask : (v out : List ℕ) → (step w (mask b v out)).event ≡ refused out_of_turn
  pub no_take : (m : Message (List ℕ)) → (step w (take b m)).event ≡ refused out_of_turn
  pub no_finish : (m : Message ℕ) → (step w (finish b m)).event ≡ refused out_of_turn
  pub no_drop : (step w (drop b)).event ≡ refused out_of_turn

unfoldable pub UnsoundRefused : Type 0
UnsoundRefused = (w : World) (b : Box) → BoxCalls.sound (w.box b) ≡ false → AllOutOfTurn w b
