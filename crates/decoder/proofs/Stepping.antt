-- That every call keeps the memory standing for the plain machine, and answers as it does.
use Rattle.std.proofs.Common.{◌≡◌, ℕ, zero, suc, ◌+◌, ◌*◌, ◌<◌, ◌≤◌, Bool, true, false, cond, ◌||◌, eqb, ltb, leb, List, [], ◌∷◌, map, length, ℤ, pos, ◌-ℤ◌, Some, None, Option, sym, refl, ap, ◌∙◌, subst, arith}
use lib.Signed.{lt_z}
use Rattle.std.specs.List.{range_with_len}
use Rattle.std.specs.Int.{saturate_to_bits}
use Rattle.std.proofs.lemmas.Int.{ints}
use Rattle.std.proofs.lemmas.Bool.{lt-ltb, le-ltb, eq-eqb, ne_eqb, ltb-true, ltb-false, eqb-true, eqb-false}
use Rattle.faults.specs.declared.Fault.{Fault}
use Rattle.faults.specs.declared.Fault.TheVariants.{FrameSize, NoSuchBit}
use Rattle.codes.specs.Answers.{Answers}
use Rattle.codes.specs.Pairs.{count_below}
use Rattle.noise.specs.Sources.{Lawful}
use Rattle.rules.specs.Meaning.{RuleMeaning}
use Rattle.plain.specs.declared.call.Answer.{Answer}
use Rattle.plain.specs.declared.call.Answer.TheVariants.{Stopped, Flipped, Ended, Toggled, Weighed, Unmet as UnmetAre, Packed, Refused}
use Rattle.plain.specs.declared.call.Call.{Call}
use Rattle.plain.specs.declared.call.Call.TheVariants.{Round, Decode, Toggle, Weigh, Unmet, Read}
use Rattle.plain.specs.declared.call.Verdict.{Verdict}
use Rattle.plain.specs.declared.call.Verdict.TheVariants.{Decoded, Spent}
use Rattle.plain.specs.Bounds.{most_level, most_weight, Within}
use Rattle.plain.specs.Machine.{Frame as PlainFrame, State, Step, round_made, unmet_of, all_met, verdict_of, decoded, picks, bytes_for, byte_below, packed, answers_with, step, state_after, answers_of}
use Rattle.plain.specs.Scores.{Setting, open_digit, sign_of, score_of, objective_of}
use Rattle.plain.specs.Turning.{turn}
use Rattle.plain.proofs.Bounding.{bounds_law}
use Rattle.plain.proofs.Keeping.{either}
use Rattle.engine.specs.declared.bit.Bit.{Bit}
use Rattle.engine.specs.declared.bit.Sign.{Sign}
use Rattle.engine.specs.Opening.{whole}
use Rattle.engine.specs.Packing.{unmet_signs, digits_of, packed_into}
use Rattle.engine.specs.Sweeps.{Sweeps}
use Rattle.engine.specs.Turns.{memory, flipped}
use Rattle.engine.proofs.Between.{modest, flip_stands}
use Rattle.engine.proofs.Packs.{unmet_counts, packed_same}
use Rattle.engine.proofs.Sweepings.{sweep_exact, marks_flip}
use Rattle.decoder.specs.declared.frame.Frame.{Frame}
use Rattle.decoder.specs.Memory.{Core, core, Held, Reply, said, unlike, sizes_fault, bit_fault, answer_or, refused_or, verdict_in, swept_in, flips_in, rounded, turned_by, turned_in, run_on, decoded_in, end_in, ended_at, ended_in, flipped_to, toggled_in, weighed_in, unmet_in, read_in, step_in, held_after, answers_in}
use Rattle.decoder.specs.Standing.{Stands, Standing, Replies, StepsExactly, Toggles, TogglesExactly, WeighsExactly, CountsExactly, ReadsExactly}

-- ---- sizes
-- a size as needed goes on to the next, and another is refused
like : (given needed : ℕ) (next : Option Fault) → given ≡ needed → unlike given needed next ≡ next
like given needed next e = rw (eq-eqb given needed e)

not_like : (given needed : ℕ) (next : Option Fault) → (given ≡ needed → ⊥) → unlike given needed next ≡ Some (FrameSize given)
not_like given needed next e = rw (ne_eqb given needed e)

-- a bit of the code is not refused, and another is
bit_in : (f : Frame) (n k : ℕ) → f.bits ≡ n → k < n → bit_fault f k ≡ None
bit_in f n k e l = let g : k < f.bits = omega arith in rw (lt-ltb k f.bits g)

bit_past : (f : Frame) (n k : ℕ) → f.bits ≡ n → n ≤ k → bit_fault f k ≡ Some (NoSuchBit k)
bit_past f n k e l = let g : f.bits ≤ k = omega arith in rw (le-ltb k f.bits g)

-- the difference of two objectives fits
small_gain : (n m : ℕ) (y z : ℤ) → n ≤ 4096 → m ≤ 4096 → Within (most_level * n + most_weight * m) y → Within (most_level * n + most_weight * m) z → saturate_to_bits 31 (y -ℤ z) ≡ y -ℤ z
small_gain n m y z i j h g = let l = h.low in let u = h.high in let v = g.low in let w = g.high in grind (arith, ints)

module _ (a : Answers) (s : Setting) (limit rounds : ℕ) (digit : ℕ → Bool) (c : Core) (St : Stands a s limit rounds digit c) where
  -- as many records as the frame has bits, and signs as it has checks
  records_fit : length c.records ≡ c.frame.bits
  records_fit = St.computed.bits ∙ sym St.bits

  signs_fit : length c.signs ≡ c.frame.checks
  signs_fit = St.computed.checks ∙ sym St.checks

  -- no size is refused
  sizes_fit_lem : sizes_fault c.frame a (length c.records) (length c.signs) ≡ None
  sizes_fit_lem =
      like _ _ _ records_fit
      ∙ like _ _ _ signs_fit
      ∙ like _ _ _ (St.fits.lawful.bits ∙ sym St.bits)
      ∙ like _ _ _ (St.fits.lawful.checks ∙ sym St.checks)

  -- as many signs are unmet as checks are
  unmet_is : unmet_signs c.signs ≡ count_below s.code.checks (λ i. lt_z (sign_of s.code digit i) (pos 0))
  unmet_is = unmet_counts s.code digit s.code.checks c.signs St.computed.checks St.computed.signs

  -- ---- toggles
  toggle_in : (k : ℕ) → k < s.code.bits → toggled_in a k c ≡ flipped_to k c (flipped a k c.frame.weight (memory c.records c.signs))
  toggle_in k l = rw (sizes_fit_lem, bit_in c.frame s.code.bits k St.bits l)

  toggle_past : (k : ℕ) → s.code.bits ≤ k → toggled_in a k c ≡ said (Refused (NoSuchBit k)) c
  toggle_past k l = rw (sizes_fit_lem, bit_past c.frame s.code.bits k St.bits l)

  -- a flip keeps what stands, and every mark
  toggle_stands : (k : ℕ) → k < s.code.bits → Stands a s limit rounds (turn k digit) (flipped_to k c (flipped a k c.frame.weight (memory c.records c.signs))).core
  toggle_stands k l = record {
    fits = St.fits;
    computed = flip_stands a c.frame.weight s St.fits digit k (memory c.records c.signs) c.frame.objective l St.computed;
    unmarked = λ b. marks_flip a k c.frame.weight (memory c.records c.signs) b ∙ St.unmarked b;
    bits = St.bits;
    checks = St.checks;
    limited = St.limited;
    counted = St.counted;
    opening = St.opening;
  }

  toggles : (k : ℕ) → Toggles a s limit rounds digit k (toggled_in a k c)
  toggles k = record {
    turned = λ l. rw (toggle_in k l) (ap Toggled ((toggle_stands k l).computed.scores k l), toggle_stands k l);
    none = λ l. rw (toggle_past k l) (refl, St);
  }

  -- ---- weights
  -- two objectives are not so far apart that their difference is held
  gain_is : saturate_to_bits 31 (c.frame.objective -ℤ c.frame.opening) ≡ objective_of s digit -ℤ objective_of s (open_digit s)
  gain_is =
      let now = (bounds_law s digit (modest a c.frame.weight s St.fits)).objective in
      let first = (bounds_law s (open_digit s) (modest a c.frame.weight s St.fits)).objective in
      ap (λ (z : ℤ). saturate_to_bits 31 (z -ℤ c.frame.opening)) St.computed.computed
      ∙ ap (λ (z : ℤ). saturate_to_bits 31 (objective_of s digit -ℤ z)) St.opening
      ∙ small_gain s.code.bits s.code.checks (objective_of s digit) (objective_of s (open_digit s)) St.fits.lawful.few_bits St.fits.lawful.few_checks now first

  weight_in : (k : ℕ) → k < s.code.bits → weighed_in k c.frame c.records ≡ Weighed (score_of s digit k) (objective_of s digit) (objective_of s digit -ℤ objective_of s (open_digit s))
  weight_in k l = rw (eq-eqb (length c.records) c.frame.bits records_fit, bit_in c.frame s.code.bits k St.bits l, St.computed.scores k l, gain_is, St.computed.computed)

  weight_past : (k : ℕ) → s.code.bits ≤ k → weighed_in k c.frame c.records ≡ Refused (NoSuchBit k)
  weight_past k l = rw (eq-eqb (length c.records) c.frame.bits records_fit, bit_past c.frame s.code.bits k St.bits l)

  -- ---- counts of unmet checks
  counts : unmet_in c.frame c.signs ≡ UnmetAre (count_below s.code.checks (λ i. lt_z (sign_of s.code digit i) (pos 0)))
  counts = rw (eq-eqb (length c.signs) c.frame.checks signs_fit, unmet_is)

  -- ---- digits in bytes
  bytes_are : packed_into (bytes_for s.code.bits) c.records ≡ packed s.code.bits digit
  bytes_are = ap (λ (n : ℕ). map (λ i. byte_below n (digits_of c.records) i 8) (range_with_len 0 (bytes_for s.code.bits))) St.computed.bits ∙ packed_same s.code.bits (digits_of c.records) digit St.computed.digits

  read_whole : (n : ℕ) → n ≡ bytes_for s.code.bits → read_in n c.frame c.records ≡ Packed (packed s.code.bits digit)
  read_whole n e =
      let enough : n ≡ bytes_for c.frame.bits = e ∙ ap bytes_for (sym St.bits) in
      ap (λ (o : Option Fault). answer_or o (Packed (packed_into n c.records))) (like _ _ _ records_fit ∙ like n (bytes_for c.frame.bits) None enough)
      ∙ ap Packed (ap (λ (i : ℕ). packed_into i c.records) e ∙ bytes_are)

  read_other : (n : ℕ) → (n ≡ bytes_for s.code.bits → ⊥) → read_in n c.frame c.records ≡ Refused (FrameSize n)
  read_other n ne =
      ap (λ (o : Option Fault). answer_or o (Packed (packed_into n c.records))) (like _ _ _ records_fit ∙ not_like n (bytes_for c.frame.bits) None (λ e. ne (e ∙ ap bytes_for St.bits)))

-- ---- the calls that leave the rule alone
pub toggle_exact : (a : Answers) (k : ℕ) (c : Core) → TogglesExactly a k c (toggled_in a k c)
toggle_exact a k c s limit rounds digit St = toggles a s limit rounds digit c St k

pub weigh_exact : (k : ℕ) (f : Frame) (rs : List Bit) → WeighsExactly k f rs (weighed_in k f rs)
weigh_exact k f rs a s limit rounds digit ss St = record { computed = weight_in a s limit rounds digit (core f rs ss) St k; none = weight_past a s limit rounds digit (core f rs ss) St k }

pub unmet_exact : (f : Frame) (ss : List Sign) → CountsExactly f ss (unmet_in f ss)
unmet_exact f ss a s limit rounds digit rs St = counts a s limit rounds digit (core f rs ss) St

pub read_exact : (n : ℕ) (f : Frame) (rs : List Bit) → ReadsExactly n f rs (read_in n f rs)
read_exact n f rs a s limit rounds digit ss St = record { whole = read_whole a s limit rounds digit (core f rs ss) St n; other = read_other a s limit rounds digit (core f rs ss) St n }

-- ---- rounds
-- how a round ends, by whether all checks are met, and whether the limit is reached
abbrev verdict_by : Bool → Bool → Option Verdict
verdict_by met late = cond met (Some Decoded) (cond late (Some Spent) None)

module _ {S : Type 0} (a : Answers) (m : RuleMeaning S) (noise : ℕ → ℕ → ℤ) (law : Lawful noise) (f : PlainFrame S) (rule : f.rule ≡ m) (source : f.noise ≡ noise) where
  -- the verdict is the machine's
  unmet_same : (p : State S) (h : Held S) → Standing a f p h → unmet_signs h.core.signs ≡ unmet_of f p
  unmet_same p h St = unmet_is a f.setting f.limit p.rounds p.digits h.core St.core

  verdict_is : (p : State S) (h : Held S) → Standing a f p h → verdict_in h.core.frame h.core.signs ≡ verdict_by (all_met f p) (leb f.limit p.rounds)
  verdict_is p h St = rw (unmet_same p h St, St.core.limited, St.core.counted)

  end_is : (p : State S) (h : Held S) → Standing a f p h → end_in h.core.signs ≡ verdict_of f p
  end_is p h St = rw (unmet_same p h St)

  -- the flips are those of the machine's picks
  sweeps : (p : State S) (h : Held S) → Standing a f p h → Sweeps f p (swept_in m noise a h) (flips_in m noise h)
  sweeps p h St =
      let K = St.core in
      sweep_exact a h.core.frame.weight m h.rule noise law h.core.frame.rounds (whole h.core.records h.core.signs h.core.frame.objective) (swept_in m noise a h) (flips_in m noise h) refl refl f p rule (sym St.rule) source (sym K.counted) K.fits K.computed K.unmarked

  -- a counted round: the rule is told what the machine's is told
  round_stands : (p : State S) (h : Held S) → Standing a f p h → Standing a f (round_made f p) (rounded m noise a h)
  round_stands p h St =
      let K = St.core in
      let W = sweeps p h St in
      record {
        core = record {
          fits = K.fits;
          computed = W.stands;
          unmarked = W.unmarked;
          bits = K.bits;
          checks = K.checks;
          limited = K.limited;
          counted = ap (λ (r : ℕ). r + 1) K.counted;
          opening = K.opening;
        };
        rule = rw (W.stands.computed, St.rule, K.computed.computed, rule);
      }

  -- a round, by the two tests
  round_by : (p : State S) (h : Held S) → Standing a f p h → (met late : Bool) → Replies a f (cond (met || late) (answers_with (Stopped (cond met Decoded Spent)) p) (answers_with (Flipped (count_below f.setting.code.bits (picks f p))) (round_made f p))) (turned_by m noise a h (verdict_by met late))
  round_by p h St true late = record { answer = refl; stands = St }
  round_by p h St false true = record { answer = refl; stands = St }
  round_by p h St false false = record { answer = ap Flipped (sweeps p h St).counts; stands = round_stands p h St }

  turn_replies : (p : State S) (h : Held S) → Standing a f p h → Replies a f (step f Round p) (turned_in m noise a h)
  turn_replies p h St = subst (λ (o : Option Verdict). Replies a f (step f Round p) (turned_by m noise a h o)) (sym (verdict_is p h St)) (round_by p h St (all_met f p) (leb f.limit p.rounds))

  -- ---- rounds until one stops
  -- one round more, by the same
  run_by : (p q : State S) (h g : Held S) → Standing a f p h → Standing a f q g → (met late : Bool) → Standing a f (cond (met || late) p q) (run_on (verdict_by met late) h g)
  run_by p q h g St next true late = St
  run_by p q h g St next false true = St
  run_by p q h g St next false false = next

  decode_stands : (n : ℕ) (p : State S) (h : Held S) → Standing a f p h → Standing a f (decoded f n p) (decoded_in m noise a n h)
  decode_stands zero p h St = St
  decode_stands (suc n) p h St =
      let rest = decode_stands n (round_made f p) (rounded m noise a h) (round_stands p h St) in
      subst (λ (o : Option Verdict). Standing a f (decoded f (suc n) p) (run_on o h (decoded_in m noise a n (rounded m noise a h)))) (sym (verdict_is p h St)) (run_by p (decoded f n (round_made f p)) h (decoded_in m noise a n (rounded m noise a h)) St rest (all_met f p) (leb f.limit p.rounds))

  -- the answer at the end
  ended : (p : State S) (h : Held S) → Standing a f p h → Replies a f (answers_with (Ended (verdict_of f p) p.rounds) p) (ended_at h)
  ended p h St = record { answer = rw (end_is p h St, St.core.counted); stands = St }

  decode_replies : (p : State S) (h : Held S) → Standing a f p h → Replies a f (step f Decode p) (ended_in m noise a h)
  decode_replies p h St =
      let end = decoded_in m noise a f.limit h in
      subst (λ (n : ℕ). Replies a f (step f Decode p) (ended_at (decoded_in m noise a n h))) (sym St.core.limited) (ended (decoded f f.limit p) end (decode_stands f.limit p h St))

  -- ---- every call
  -- no size is refused
  goes_on : (t : Step S) (p : State S) (h : Held S) (r : Reply S) → Standing a f p h → Replies a f t r → Replies a f t (refused_or (sizes_fault h.core.frame a (length h.core.records) (length h.core.signs)) h r)
  goes_on t p h r St R = rw (sizes_fit_lem a f.setting f.limit p.rounds p.digits h.core St.core) R

  replies : (c : Call) (p : State S) (h : Held S) → Standing a f p h → Replies a f (step f c p) (step_in m noise a c h)
  replies Round p h St = goes_on (step f Round p) p h (turned_in m noise a h) St (turn_replies p h St)
  replies Decode p h St = goes_on (step f Decode p) p h (ended_in m noise a h) St (decode_replies p h St)
  replies (Toggle k) p h St =
      let T = toggle_exact a k h.core f.setting f.limit p.rounds p.digits St.core in
      either (λ (t : Step S). Replies a f t (step_in m noise a (Toggle k) h)) (ltb k f.setting.code.bits) _ _
      (λ e. let y = T.turned (ltb-true _ _ e) in record { answer = y.0; stands = record { core = y.1; rule = St.rule } })
      (λ e. let y = T.none (ltb-false _ _ e) in record { answer = y.0; stands = record { core = y.1; rule = St.rule } })
  replies (Weigh k) p h St =
      let W = weigh_exact k h.core.frame h.core.records a f.setting f.limit p.rounds p.digits h.core.signs St.core in
      either (λ (t : Step S). Replies a f t (step_in m noise a (Weigh k) h)) (ltb k f.setting.code.bits) _ _
      (λ e. record { answer = W.computed (ltb-true _ _ e); stands = St })
      (λ e. record { answer = W.none (ltb-false _ _ e); stands = St })
  replies Unmet p h St = record { answer = unmet_exact h.core.frame h.core.signs a f.setting f.limit p.rounds p.digits h.core.records St.core; stands = St }
  replies (Read n) p h St =
      let R = read_exact n h.core.frame h.core.records a f.setting f.limit p.rounds p.digits h.core.signs St.core in
      either (λ (t : Step S). Replies a f t (step_in m noise a (Read n) h)) (eqb n (bytes_for f.setting.code.bits)) _ _
      (λ e. record { answer = R.whole (eqb-true _ _ e); stands = St })
      (λ e. record { answer = R.other (eqb-false _ _ e); stands = St })

  -- ---- runs
  runs : (cs : List Call) (p : State S) (h : Held S) → Standing a f p h → (answers_in m noise a cs h ≡ answers_of f cs p) × Standing a f (state_after f cs p) (held_after m noise a cs h)
  runs [] p h St = (refl, St)
  runs (c ∷ cs) p h St =
      let R = replies c p h St in
      let rest = runs cs (step f c p).state (step_in m noise a c h).held R.stands in
      (ap (λ (x : Answer (List ℕ)). x ∷ answers_in m noise a cs (step_in m noise a c h).held) R.answer ∙ ap (λ (xs : List (Answer (List ℕ))). (step f c p).answer ∷ xs) rest.0, rest.1)

pub step_exact : {S : Type 0} (a : Answers) (m : RuleMeaning S) (noise : ℕ → ℕ → ℤ) → Lawful noise → (c : Call) (h : Held S) → StepsExactly a m noise c h (step_in m noise a c h)
step_exact a m noise law c h f p rule source St = replies a m noise law f rule source c p h St

pub run_exact : {S : Type 0} (a : Answers) (m : RuleMeaning S) (noise : ℕ → ℕ → ℤ) → Lawful noise → (cs : List Call) (f : PlainFrame S) (p : State S) (h : Held S) → f.rule ≡ m → f.noise ≡ noise → Standing a f p h → (answers_in m noise a cs h ≡ answers_of f cs p) × Standing a f (state_after f cs p) (held_after m noise a cs h)
run_exact a m noise law cs f p h rule source St = runs a m noise law f rule source cs p h St
