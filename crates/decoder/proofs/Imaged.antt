-- Codeword symmetry, from samples to memory.
use Rattle.std.proofs.Common.{◌≡◌, ℕ, ◌%◌, ◌<◌, ◌≤◌, Bool, true, false, cond, not, ◌&&◌, eqb, ltb, List, [], ◌∷◌, map, length, get_or, ℤ, pos, neg_ℤ, nat_abs, ◌≤ℤ◌, Some, None, Option, sym, refl, ap, ◌∙◌, subst, subst₂, ⊎_elim, arith}
use mathlib.Core.Path.{fun_ext}
use lib.Ieee.{Float, nan, inf, fin, neg, is_nan}
use Rattle.std.proofs.lemmas.List.{length-map, get_or-map, get_or_past, get_or_default, same_lists}
use Rattle.std.proofs.lemmas.Int.{ints}
use Rattle.std.proofs.lemmas.Bool.{cond-true, cond-false, cases_Bool, cases_lt, and_parts, and_from, lt-ltb, le-ltb, ltb-true, le-leb, eq-eqb}
use Rattle.faults.specs.First.{fault_at}
use Rattle.faults.specs.Rows.{Row, Q}
use Rattle.faults.proofs.Firsts.{first_none, first_all, first_same, position_first}
use Rattle.codes.specs.Answers.{Answers}
use Rattle.codes.specs.Lawful.{Lawful}
use Rattle.codes.specs.Pairs.{Pairs, Codeword}
use Rattle.codes.proofs.Absent.{none_some}
use Rattle.codes.proofs.Counts.{count_same}
use Rattle.quantiser.specs.declared.Quantiser.{Quantiser}
use Rattle.quantiser.specs.Levels.{level_of}
use Rattle.quantiser.specs.Runs.{nan_at, first_nan, quantise_fault}
use Rattle.quantiser.proofs.Signs.{mirrored, odd_and_small}
use Rattle.noise.specs.Sources.{Lawful as LawfulNoise}
use Rattle.rules.specs.Meaning.{RuleMeaning, Alike}
use Rattle.plain.specs.declared.call.Answer.{Answer}
use Rattle.plain.specs.declared.call.Answer.TheVariants.{Stopped, Flipped, Ended, Toggled, Weighed, Unmet as UnmetAre, Packed, Refused}
use Rattle.plain.specs.declared.call.Call.{Call}
use Rattle.plain.specs.Bounds.{most_level}
use Rattle.plain.specs.Machine.{Frame as PlainFrame, opened, state_after, answers_of}
use Rattle.plain.specs.Mirror.{turned_at, mirrored as mirror}
use Rattle.plain.specs.Scores.{Setting, open_digit, objective_of}
use Rattle.plain.specs.Symmetry.{Image, SameBut, AllSameBut}
use Rattle.plain.proofs.Imaging.{rounds_same, symmetry_law}
use Rattle.plain.proofs.Mirrored.{mirror_law}
use Rattle.engine.specs.declared.bit.Bit.{Bit}
use Rattle.engine.specs.declared.bit.Sign.{Sign}
use Rattle.engine.specs.declared.bit.Sign.TheVariants.{Met, Unmet}
use Rattle.engine.specs.Packing.{digits_of}
use Rattle.engine.specs.Stands.{sign_value}
use Rattle.engine.specs.Turns.{blank}
use Rattle.engine.proofs.Packs.{packed_same}
use Rattle.decoder.specs.Images.{Negated, Images-alike}
use Rattle.decoder.specs.Memory.{Core, held_after, answers_in}
use Rattle.decoder.specs.Openings.{level_fits, first_bad_level, open_fault, opened_in}
use Rattle.decoder.specs.Replays.{frame_of}
use Rattle.decoder.specs.Standing.{Stands}
use Rattle.decoder.proofs.Opened.{allowed}
use Rattle.decoder.proofs.Runs.{run_laws}

-- ---- samples
neg_nan : (x : Float) → is_nan (neg x) ≡ is_nan x
unfolding is_nan neg
neg_nan nan = refl
neg_nan (inf s) = refl
neg_nan (fin s m e) = refl

-- a sample is a number exactly where its image is
nan_alike : (z : ℕ → Bool) (xs ys : List Float) → Negated z xs ys → (k : ℕ) → k < length xs → nan_at ys k ≡ nan_at xs k
nan_alike z xs ys other k l =
    ⊎_elim
    (λ (one : z k ≡ true). ap is_nan (other.ones k l one).0 ∙ neg_nan (get_or xs k nan))
    (λ (zero : z k ≡ false). ap is_nan (other.zeros k l zero))
    (cases_Bool (z k))

-- both samples are refused alike
pub quantise_alike : (z : ℕ → Bool) (xs ys : List Float) (n : ℕ) → Negated z xs ys → quantise_fault ys n ≡ quantise_fault xs n
quantise_alike z xs ys n other =
    let nans : first_nan ys ≡ first_nan xs = rw other.count (first_same (nan_at ys) (nan_at xs) (length xs) (nan_alike z xs ys other)) in
    λ i. cond (eqb (other.count i) n) (fault_at (Q 3) (nans i) None) (Some (Q 1 (other.count i)))

-- where samples are not refused, each is a number
no_fault : (b : Bool) (o : Option ℕ) (e : Row) → cond b (fault_at (Q 3) o None) (Some e) ≡ None → o ≡ None
no_fault true None e h = refl
no_fault true (Some i) e h = none_some (Q 3 i) (sym h)
no_fault false o e h = none_some e (sym h)

numbers : (xs : List Float) (n : ℕ) → quantise_fault xs n ≡ None → (k : ℕ) → k < length xs → is_nan (get_or xs k nan) ≡ false
numbers xs n h k l = first_none (nan_at xs) (length xs) (no_fault (eqb (length xs) n) (first_nan xs) (Q 1 (length xs)) h) k l

-- ---- levels
-- odd and small
fits : (y : ℤ) → nat_abs y % 2 ≡ 1 → neg_ℤ (pos most_level) ≤ℤ y → y ≤ℤ pos most_level → level_fits y ≡ true
fits y odd low high = let small : nat_abs y ≤ most_level = grind (arith, ints) in and_from _ _ (le-leb (nat_abs y) most_level small) (eq-eqb (nat_abs y % 2) 1 odd)

level_fits_lem : (q : Quantiser) (x : Float) → level_fits (level_of q.shape x) ≡ true
level_fits_lem q x = let h = odd_and_small q x in fits (level_of q.shape x) h.0 h.1 h.2

module _ (q : Quantiser) where
  -- the levels of samples
  abbrev levels_of : List Float → List ℤ
  levels_of xs = map (level_of q.shape) xs

  level_at : (xs : List Float) (k : ℕ) → k < length xs → get_or (levels_of xs) k (pos 0) ≡ level_of q.shape (get_or xs k nan)
  level_at xs k l = get_or-map (level_of q.shape) xs k nan (pos 0) l

  -- every one fits
  none_bad : (xs : List Float) → first_bad_level (levels_of xs) ≡ None
  none_bad xs =
      position_first (λ y. not (level_fits y)) (pos 0) (levels_of xs)
      ∙ first_all (λ i. not (level_fits (get_or (levels_of xs) i (pos 0)))) (length (levels_of xs))
      (λ k l. let i : k < length xs = omega (arith, length-map xs (level_of q.shape)) in rw (level_at xs k i, level_fits_lem q (get_or xs k nan)))

  -- none is 0
  not_zero : (x : Float) → level_of q.shape x ≡ pos 0 → ⊥
  not_zero x e = let odd = (odd_and_small q x).0 in let none : nat_abs (level_of q.shape x) ≡ 0 = ap nat_abs e in omega arith

-- openings with the levels of both samples are refused alike
pub open_alike : (q : Quantiser) (z : ℕ → Bool) (xs ys : List Float) (n : ℕ) → quantise_fault xs n ≡ None → Negated z xs ys → (a : Answers) (w limit records signs : ℕ) → open_fault a (map (level_of q.shape) ys) w limit records signs ≡ open_fault a (map (level_of q.shape) xs) w limit records signs
open_alike q z xs ys n ok other a w limit records signs =
    let sizes : length (levels_of q ys) ≡ length (levels_of q xs) = length-map ys (level_of q.shape) ∙ other.count ∙ sym (length-map xs (level_of q.shape)) in
    rw (none_bad q ys, none_bad q xs, sizes)

-- ---- the ones below n
abbrev cut : ℕ → (ℕ → Bool) → ℕ → Bool
cut n z k = ltb k n && z k

cut_in : (n : ℕ) (z : ℕ → Bool) (k : ℕ) → k < n → cut n z k ≡ z k
cut_in n z k l = rw (lt-ltb k n l)

cut_past : (n : ℕ) (z : ℕ → Bool) (k : ℕ) → n ≤ k → cut n z k ≡ false
cut_past n z k l = rw (le-ltb k n l)

-- a codeword's are a codeword
cut_word : (p : Pairs) (z : ℕ → Bool) → Codeword p z → Codeword p (cut p.bits z)
cut_word p z word c l =
    ap (λ (n : ℕ). n % 2) (count_same p.bits (λ b. p.holds c b && cut p.bits z b) (λ b. p.holds c b && z b) (λ b i. ap (λ (t : Bool). p.holds c b && t) (cut_in p.bits z b i)))
    ∙ word c l

cut_turned : (n : ℕ) (z d : ℕ → Bool) (k : ℕ) → k < n → turned_at (cut n z) d k ≡ turned_at z d k
cut_turned n z d k l = ap (λ (t : Bool). cond t (not (d k)) (d k)) (cut_in n z k l)

-- answers have no digit from n on
uncut : (n : ℕ) (z : ℕ → Bool) (x y : Answer (List ℕ)) → SameBut (cut n z) n x y → SameBut z n x y
uncut n z (Stopped v) y e = e
uncut n z (Flipped m) y e = e
uncut n z (Ended v m) y e = e
uncut n z (Toggled x) y e = e
uncut n z (Weighed x u v) y e = e
uncut n z (UnmetAre m) y e = e
uncut n z (Packed bytes) y e = (e.0, e.1, e.2 ∙ ap Packed (packed_same n (turned_at (cut n z) e.0) (turned_at z e.0) (cut_turned n z e.0)))
uncut n z (Refused r) y e = e

all_uncut : (n : ℕ) (z : ℕ → Bool) (xs ys : List (Answer (List ℕ))) → AllSameBut (cut n z) n xs ys → AllSameBut z n xs ys
all_uncut n z [] ys e = e
all_uncut n z (x ∷ xs) [] e = e
all_uncut n z (x ∷ xs) (y ∷ ys) e = (uncut n z x y e.0, all_uncut n z xs ys e.1)

-- ---- the frames of both samples are images
module _ (q : Quantiser) (z : ℕ → Bool) (xs ys : List Float) (n : ℕ) (ok : quantise_fault xs n ≡ None) (other : Negated z xs ys) where
  value_image : (k : ℕ) → k < length xs → level_of q.shape (get_or ys k nan) ≡ cond (z k) (neg_ℤ (level_of q.shape (get_or xs k nan))) (level_of q.shape (get_or xs k nan))
  value_image k l =
      ⊎_elim
      (λ (one : z k ≡ true). let e = other.ones k l one in ap (level_of q.shape) e.0 ∙ mirrored q (get_or xs k nan) (numbers xs n ok k l) e.1 ∙ sym (cond-true (z k) _ _ one))
      (λ (zero : z k ≡ false). ap (level_of q.shape) (other.zeros k l zero) ∙ sym (cond-false (z k) _ _ zero))
      (cases_Bool (z k))

  level_image : (k : ℕ) → get_or (levels_of q ys) k (pos 0) ≡ cond (cut (length xs) z k) (neg_ℤ (get_or (levels_of q xs) k (pos 0))) (get_or (levels_of q xs) k (pos 0))
  level_image k =
      let count = other.count in
      let sizes = length-map xs (level_of q.shape) in
      let sizes' = length-map ys (level_of q.shape) in
      ⊎_elim
      (λ (l : k < length xs). level_at q ys k (omega arith) ∙ value_image k l ∙ sym (λ i. cond (cut_in (length xs) z k l i) (neg_ℤ (level_at q xs k l i)) (level_at q xs k l i)))
      (λ (past : length xs ≤ k). get_or_past (levels_of q ys) k (pos 0) (omega arith) ∙ rw (cut_past (length xs) z k past, get_or_past (levels_of q xs) k (pos 0) (omega arith)))
      (cases_lt k (length xs))

  image : {S T : Type 0} (p : Pairs) → length xs ≡ p.bits → Codeword p z → (m : RuleMeaning S) (o : RuleMeaning T) → Alike m o → (noise : ℕ → ℕ → ℤ) (w limit : ℕ) → Image (cut p.bits z) (frame_of p (levels_of q xs) w limit m noise) (frame_of p (levels_of q ys) w limit o noise)
  image p size word m o alike noise w limit =
      let levels = subst (λ (b : ℕ). (k : ℕ) → get_or (levels_of q ys) k (pos 0) ≡ cond (cut b z k) (neg_ℤ (get_or (levels_of q xs) k (pos 0))) (get_or (levels_of q xs) k (pos 0))) size level_image in
      record {
        word = cut_word p z word;
        levels = λ k one e.
            let l : k < p.bits = ltb-true k p.bits (and_parts (ltb k p.bits) (z k) one).0 in
            not_zero q (get_or xs k nan) (sym (level_at q xs k (omega arith)) ∙ e);
        setting = λ i. record { code = p; weight = λ c. w; level = fun_ext levels i };
        limit = refl;
        noise = refl;
        rule = alike;
      }

-- ---- memory that stands for a state, and for its image
same_sign : (s t : Sign) → sign_value s ≡ sign_value t → s ≡ t
same_sign Met Met e = refl
same_sign Met Unmet e = absurd (omega (arith, ints))
same_sign Unmet Met e = absurd (omega (arith, ints))
same_sign Unmet Unmet e = refl

module _ (a : Answers) (s : Setting) (z d : ℕ → Bool) (limit rounds : ℕ) (c c' : Core) (word : Codeword s.code z) (first : open_digit (mirror z s) ≡ turned_at z (open_digit s)) (K : Stands a s limit rounds d c) (K' : Stands a (mirror z s) limit rounds (turned_at z d) c') where
  scores_alike : (k : ℕ) → k < s.code.bits → (get_or c'.records k blank).score ≡ (get_or c.records k blank).score
  scores_alike k l = K'.computed.scores k l ∙ (mirror_law s z d word).scores k ∙ sym (K.computed.scores k l)

  digits_alike : (k : ℕ) → k < s.code.bits → (get_or c'.records k blank).digit ≡ turned_at z (digits_of c.records) k
  digits_alike k l = K'.computed.digits k l ∙ ap (λ (t : Bool). cond (z k) (not t) t) (sym (K.computed.digits k l))

  sign_alike : (i : ℕ) → i < s.code.checks → get_or c'.signs i Met ≡ get_or c.signs i Met
  sign_alike i l = same_sign _ _ (K'.computed.signs i l ∙ (mirror_law s z d word).signs i l ∙ sym (K.computed.signs i l))

  signs_alike : c'.signs ≡ c.signs
  signs_alike =
      let n = K.computed.checks in
      let n' = K'.computed.checks in
      same_lists c'.signs c.signs (n' ∙ sym n)
      (λ i e l. get_or_default c'.signs i e Met l ∙ sign_alike i (omega arith) ∙ get_or_default c.signs i Met e (omega arith))

  -- one weight for every check, and there is a check
  weight_alike : c'.frame.weight ≡ c.frame.weight
  weight_alike = let some = K.fits.lawful.some_checks in sym (K'.fits.weights 0 (omega arith)) ∙ K.fits.weights 0 (omega arith)

  objective_alike : c'.frame.objective ≡ c.frame.objective
  objective_alike = K'.computed.computed ∙ (mirror_law s z d word).objective ∙ sym K.computed.computed

  opening_alike : c'.frame.opening ≡ c.frame.opening
  opening_alike = K'.opening ∙ ap (objective_of (mirror z s)) first ∙ (mirror_law s z (open_digit s) word).objective ∙ sym K.opening

  frames_alike : c'.frame ≡ c.frame
  frames_alike = λ i. record {
    bits = (K'.bits ∙ sym K.bits) i;
    checks = (K'.checks ∙ sym K.checks) i;
    weight = weight_alike i;
    limit = (K'.limited ∙ sym K.limited) i;
    rounds = (K'.counted ∙ sym K.counted) i;
    objective = objective_alike i;
    opening = opening_alike i;
  }

  memory_alike : (c'.frame ≡ c.frame) × (c'.signs ≡ c.signs) × ((k : ℕ) → k < s.code.bits → (get_or c'.records k blank).score ≡ (get_or c.records k blank).score) × ((k : ℕ) → k < s.code.bits → (get_or c'.records k blank).digit ≡ turned_at z (digits_of c.records) k)
  memory_alike = (frames_alike, signs_alike, scores_alike, digits_alike)

-- ---- every list of calls
module _ {S T : Type 0} (z : ℕ → Bool) (f : PlainFrame S) (g : PlainFrame T) (i : Image z f g) where
  opened_image : open_digit (mirror z f.setting) ≡ turned_at z (open_digit f.setting)
  opened_image = ap open_digit (sym i.setting) ∙ (symmetry_law S T z f g [] i).digits

  stands_image : (a : Answers) (cs : List Call) (c : Core) → Stands a g.setting g.limit (state_after g cs (opened g)).rounds (state_after g cs (opened g)).digits c → Stands a (mirror z f.setting) f.limit (state_after f cs (opened f)).rounds (turned_at z (state_after f cs (opened f)).digits) c
  stands_image a cs c K = coe 0 1 (j. Stands a (i.setting j) (i.limit j) (rounds_same z f g i cs j) ((symmetry_law S T z f g cs i).digits j) c) K

pub runs_alike : {S T : Type 0} (q : Quantiser) (z : ℕ → Bool) (xs ys : List Float) (n : ℕ) → quantise_fault xs n ≡ None → Negated z xs ys → (a : Answers) (p : Pairs) → Lawful a p → Codeword p z → (m : RuleMeaning S) (o : RuleMeaning T) → Alike m o → (noise : ℕ → ℕ → ℤ) → LawfulNoise noise → (w limit : ℕ) (rs rs' : List Bit) (ss ss' : List Sign) → open_fault a (map (level_of q.shape) xs) w limit (length rs) (length ss) ≡ None → open_fault a (map (level_of q.shape) ys) w limit (length rs') (length ss') ≡ None → (cs : List Call) → Images-alike z p (answers_in m noise a cs (opened_in m a (map (level_of q.shape) xs) w limit rs ss)) (held_after m noise a cs (opened_in m a (map (level_of q.shape) xs) w limit rs ss)) (answers_in o noise a cs (opened_in o a (map (level_of q.shape) ys) w limit rs' ss')) (held_after o noise a cs (opened_in o a (map (level_of q.shape) ys) w limit rs' ss'))
runs_alike {S} {T} q z xs ys n ok other a p lawful word m o alike noise law w limit rs rs' ss ss' fine fine' cs =
    let f = frame_of p (levels_of q xs) w limit m noise in
    let g = frame_of p (levels_of q ys) w limit o noise in
    let ones = cut p.bits z in
    let h = held_after m noise a cs (opened_in m a (levels_of q xs) w limit rs ss) in
    let h' = held_after o noise a cs (opened_in o a (levels_of q ys) w limit rs' ss') in
    let R = run_laws a m noise law (levels_of q xs) w limit rs ss fine cs p lawful in
    let R' = run_laws a o noise law (levels_of q ys) w limit rs' ss' fine' cs p lawful in
    let size = sym (length-map xs (level_of q.shape)) ∙ (allowed a (levels_of q xs) w limit (length rs) (length ss) fine).levels ∙ lawful.bits in
    let i = image q z xs ys n ok other p size word m o alike noise w limit in
    let t = state_after f cs (opened f) in
    let M = memory_alike a f.setting ones t.digits limit t.rounds h.core h'.core i.word (opened_image ones f g i) R.stands.core (stands_image ones f g i a cs h'.core R'.stands.core) in
    record {
      answered = subst₂ (AllSameBut z p.bits) (sym R.answered) (sym R'.answered) (all_uncut p.bits z (answers_of f cs (opened f)) (answers_of g cs (opened g)) (symmetry_law S T ones f g cs i).answers);
      frames = M.0;
      signs = M.1;
      scores = M.2;
      digits = λ k l. M.3 k l ∙ cut_turned p.bits z (digits_of h.core.records) k l;
    }
