-- That an opening stands for the plain opening.
use Rattle.std.proofs.Common.{◌≡◌, ℕ, ◌%◌, ◌<◌, ◌≤◌, Bool, true, false, cond, not, ◌&&◌, eqb, leb, List, length, get_or, ℤ, pos, nat_abs, Some, None, Option, sym, refl, ap, ◌∙◌, arith}
use Rattle.std.proofs.lemmas.Int.{ints}
use Rattle.std.proofs.lemmas.Bool.{eqb-true, leb-true, not-false, and_parts}
use Rattle.faults.specs.declared.Fault.{Fault}
use Rattle.faults.specs.declared.Fault.TheVariants.{FrameSize, LevelRange, WeightRange}
use Rattle.faults.proofs.Firsts.{first_none, position_first}
use Rattle.codes.specs.Answers.{Answers}
use Rattle.codes.proofs.Absent.{none_some}
use Rattle.rules.specs.Meaning.{RuleMeaning}
use Rattle.plain.specs.Bounds.{most_level, most_weight, Within}
use Rattle.engine.specs.declared.bit.Bit.{Bit}
use Rattle.engine.specs.declared.bit.Sign.{Sign}
use Rattle.engine.specs.Opening.{filled}
use Rattle.engine.specs.Stands.{Fits, StandsFor}
use Rattle.engine.proofs.Opens.{fill_exact, fill_unmarked}
use Rattle.decoder.specs.Memory.{unlike}
use Rattle.decoder.specs.Openings.{level_fits, first_bad_level, level_fault, weight_fault, limit_fault, open_fault, opened_in, OpenedExactly}

-- ---- what follows where nothing is refused
like : (b : Bool) (e : Fault) (next : Option Fault) → cond b next (Some e) ≡ None → (b ≡ true) × (next ≡ None)
like true e next h = (refl, h)
like false e next h = none_some e (sym h)

like_size : (given needed : ℕ) (next : Option Fault) → unlike given needed next ≡ None → (given ≡ needed) × (next ≡ None)
like_size given needed next h = let b = like (eqb given needed) (FrameSize given) next h in (eqb-true given needed b.0, b.1)

no_level : (o : Option ℕ) (next : Option Fault) → level_fault o next ≡ None → (o ≡ None) × (next ≡ None)
no_level None next h = (refl, h)
no_level (Some i) next h = none_some (LevelRange i) (sym h)

small : (y : ℤ) → nat_abs y ≤ most_level → Within most_level y
small y h = record { low = grind (arith, ints); high = grind (arith, ints) }

level_small : (y : ℤ) → level_fits y ≡ true → Within most_level y
level_small y h = small y (leb-true (nat_abs y) most_level (and_parts (leb (nat_abs y) most_level) (eqb (nat_abs y % 2) 1) h).0)

pub record Allowed (a : Answers) (ys : List ℤ) (w limit records signs : ℕ) : Type 0 where
  pub levels : length ys ≡ a.bits
  pub bits : records ≡ a.bits
  pub checks : signs ≡ a.checks
  pub small : (k : ℕ) → k < length ys → Within most_level (get_or ys k (pos 0))
  pub weight : w ≤ most_weight

pub allowed : (a : Answers) (ys : List ℤ) (w limit records signs : ℕ) → open_fault a ys w limit records signs ≡ None → Allowed a ys w limit records signs
allowed a ys w limit records signs h =
    let p = like_size (length ys) a.bits _ h in
    let q = like_size records a.bits _ p.1 in
    let r = like_size signs a.checks _ q.1 in
    let l = no_level (first_bad_level ys) (weight_fault w (limit_fault limit)) r.1 in
    let v = like (leb 1 w && leb w most_weight) WeightRange (limit_fault limit) l.1 in
    record {
      levels = p.0;
      bits = q.0;
      checks = r.0;
      small = λ k i. level_small (get_or ys k (pos 0)) (not-false _ (first_none (λ j. not (level_fits (get_or ys j (pos 0)))) (length ys) (sym (position_first (λ y. not (level_fits y)) (pos 0) ys) ∙ l.0) k i));
      weight = leb-true w most_weight (and_parts (leb 1 w) (leb w most_weight) v.0).1;
    }

pub open_exact : {S : Type 0} (a : Answers) (m : RuleMeaning S) (ys : List ℤ) (w limit : ℕ) (rs : List Bit) (ss : List Sign) → open_fault a ys w limit (length rs) (length ss) ≡ None → OpenedExactly a m ys w limit (opened_in m a ys w limit rs ss)
open_exact a m ys w limit rs ss h f rule bound lawful weights levels =
    let ok = allowed a ys w limit (length rs) (length ss) h in
    let bits = lawful.bits in
    let counts = ok.levels in
    let fits : Fits a w f.setting = record {
      lawful = lawful;
      levels = λ k l. rw (levels k l) (ok.small k (omega arith));
      weight = ok.weight;
      weights = weights;
    } in
    let stands : StandsFor f.setting _ _ _ = fill_exact a w ys rs ss (filled a w ys rs ss) refl f.setting fits (ok.bits ∙ bits) (ok.checks ∙ lawful.checks) (λ k l. sym (levels k l)) in
    record {
      core = record {
        fits = fits;
        computed = stands;
        unmarked = fill_unmarked a w ys rs ss (filled a w ys rs ss) refl;
        bits = bits;
        checks = lawful.checks;
        limited = sym bound;
        counted = refl;
        opening = stands.computed;
      };
      rule = ap (λ (x : RuleMeaning _). x.first) (sym rule);
    }
