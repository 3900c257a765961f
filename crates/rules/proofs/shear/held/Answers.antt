-- `rules::shear::held` meets its contract: no step leaves 64 bits, and the one rounding is of the whole fraction.
use mathlib.Core.Path.{◌∙◌}
use Prim.Native.Nat.{ℕ, ◌*◌, ◌≤◌, ◌^◌}
use native.Mathlib.Nat.{lt_trans}
use lib.Dec.{T, ltb, ltb→lt, lit<}
use lib.IntN.{ℤ, pos, nat_abs, ◌-ℤ◌, ◌*ℤ◌}
use lib.Signed.{◌≤ℤ◌}
use mir.Syntax.{w32, w64}
use mir.Val.{to_z, of_z}
use Rattle.rounding.proofs.Fits.{Holds, exact, lit, kept, times, minus, sfits, cast_u, cast_s, non_neg_of, non_neg_mul, size_ge}
use Rattle.rules.specs.Rules.{held_shear}
use Rattle.rules.proofs.HeldShear.{shear_fraction, shear_le}
use Rattle.rules.proofs.shear.held.Goals as goal
use Rattle.rules.proofs.shear.held.Goals.{After-round, Start}

-- a value of 64 bits, and a parameter cast to one, as they are read back
abbrev back : ℤ → ℤ
back x = to_z w64 (of_z w64 x)

abbrev wide : ℤ → ℤ
wide x = back (to_z w32 (of_z w32 x))

local : {g x : ℤ} {m : ℕ} → Holds g x m → T (ltb m (2 ^ 63)) → Holds (back g) x m
local {m = m} h t = kept w64 h (ltb→lt m (2 ^ 63) t)

widened : (x : ℤ) {m : ℕ} → nat_abs x ≤ m → T (ltb m (2 ^ 31)) → Holds (wide x) x m
widened x {m} h t = kept w64 (kept w32 (exact x h) (ltb→lt m (2 ^ 31) t)) (lt_trans (ltb→lt m (2 ^ 31) t) (lit< tt))

-- the code's expressions from the inside
along : (c : ℤ) → nat_abs c ≤ 40000 → Holds (wide c *ℤ pos 18520) (c *ℤ pos 18520) (40000 * 18520)
along c hc = times (widened c hc tt) (lit 18520)

along_part : (c a : ℤ) → nat_abs c ≤ 40000 → nat_abs a ≤ 60000 → Holds (back (wide c *ℤ pos 18520) *ℤ wide a) (c *ℤ pos 18520 *ℤ a) (40000 * 18520 * 60000)
along_part c a hc ha = times (local (along c hc) tt) (widened a ha tt)

-- the divisor of the change of wind
over : (n : ℕ) → n ≤ 20 → Holds (pos 1765197 *ℤ to_z w64 n) (pos (1765197 * n)) (1765197 * 20)
over n hn = times (lit 1765197) (cast_s w64 hn (lit< tt))

abbrev code_over : ℕ → ℤ
code_over n = back (pos 1765197 *ℤ to_z w64 n)

vertical_part : (n : ℕ) (v : ℤ) → n ≤ 20 → nat_abs v ≤ 10000 → Holds (wide v *ℤ code_over n) (v *ℤ pos (1765197 * n)) (10000 * (1765197 * 20))
vertical_part n v hn hv = times (widened v hv tt) (local (over n hn) tt)

abbrev exact_num : ℤ → ℕ → ℤ → ℤ → ℤ
exact_num c n v a = c *ℤ pos 18520 *ℤ a -ℤ v *ℤ pos (1765197 * n)

abbrev code_num : ℤ → ℕ → ℤ → ℤ → ℤ
code_num c n v a = back (back (wide c *ℤ pos 18520) *ℤ wide a) -ℤ back (wide v *ℤ code_over n)

-- what the contract asks of a change of wind, frames, a vertical wind and an airspeed
record Asked (c : ℤ) (n : ℕ) (v a : ℤ) : Type 0 where
  change_le : nat_abs c ≤ 40000
  vertical_le : nat_abs v ≤ 10000
  airspeed_ge : pos 6000 ≤ℤ a
  airspeed_le : nat_abs a ≤ 60000
  frames_ge : 1 ≤ n
  frames_le : n ≤ 20

module _ (c : ℤ) (n : ℕ) (v a : ℤ) (h : Asked c n v a) where
  difference : Holds (code_num c n v a) (exact_num c n v a) 44801039400000
  difference = minus (local (along_part c a h.change_le h.airspeed_le) tt) (local (vertical_part n v h.frames_le h.vertical_le) tt)

  numerator : Holds (back (code_num c n v a) *ℤ pos 100000) (exact_num c n v a *ℤ pos 100000) 4480103940000000000
  numerator = times (local difference tt) (lit 100000)

  divisor : Holds (code_over n *ℤ wide a) (pos (1765197 * n) *ℤ a) (1765197 * 20 * 60000)
  divisor = times (local (over n h.frames_le) tt) (widened a h.airspeed_le tt)

asked : (c : Start) → Asked c.args.change c.args.n c.args.vertical c.args.airspeed
asked c =
    record {
      change_le = c.requires.0;
      vertical_le = c.requires.1;
      airspeed_ge = c.requires.2;
      airspeed_le = c.requires.3;
      frames_ge = c.requires.4;
      frames_le = c.requires.5;
    }

pub overflow_cast-a : goal.overflow_cast-a
overflow_cast-a c = sfits w64 (kept w32 (exact c.args.airspeed c.requires.3) (lit< tt)) (lit< tt)

pub overflow_cast-over : goal.overflow_cast-over
overflow_cast-over c = sfits w64 (exact (pos c.args.n) c.requires.5) (lit< tt)

pub overflow_mul-over : goal.overflow_mul-over
overflow_mul-over c = sfits w64 (over c.args.n c.requires.5) (lit< tt)

pub overflow_cast-num : goal.overflow_cast-num
overflow_cast-num c = sfits w64 (kept w32 (exact c.args.change c.requires.0) (lit< tt)) (lit< tt)

pub overflow_mul-num : goal.overflow_mul-num
overflow_mul-num c = sfits w64 (along c.args.change c.requires.0) (lit< tt)

pub overflow_mul-num-2 : goal.overflow_mul-num-2
overflow_mul-num-2 c = sfits w64 (along_part c.args.change c.args.airspeed c.requires.0 c.requires.3) (lit< tt)

pub overflow_cast-num-2 : goal.overflow_cast-num-2
overflow_cast-num-2 c = sfits w64 (kept w32 (exact c.args.vertical c.requires.1) (lit< tt)) (lit< tt)

pub overflow_mul-num-3 : goal.overflow_mul-num-3
overflow_mul-num-3 c = sfits w64 (vertical_part c.args.n c.args.vertical c.requires.5 c.requires.1) (lit< tt)

pub overflow_sub-num : goal.overflow_sub-num
overflow_sub-num c = sfits w64 (difference _ _ _ _ (asked c)) (lit< tt)

pub overflow_mul-num-4 : goal.overflow_mul-num-4
overflow_mul-num-4 c = sfits w64 (numerator _ _ _ _ (asked c)) (lit< tt)

pub overflow_mul-den : goal.overflow_mul-den
overflow_mul-den c = sfits w64 (divisor _ _ _ _ (asked c)) (lit< tt)

pub overflow_cast-den : goal.overflow_cast-den
overflow_cast-den c =
    cast_u w64 (local (divisor _ _ _ _ (asked c)) tt) (non_neg_mul (1765197 * c.args.n) c.args.airspeed (non_neg_of c.args.airspeed c.requires.2)) (lit< tt)

-- what the rule gives is the held shear, within its bound
result : (c : After-round)
    → let k = c.before.args in
    Holds c.round.result (held_shear k.change k.n k.vertical k.airspeed) 50000000
result c =
    let k = c.before in
    let h = asked k in
    let e = c.round.ensures in
    let n = local (numerator _ _ _ _ h) tt in
    let d = local (divisor _ _ _ _ h) tt in
    let t = non_neg_of k.args.airspeed k.requires.2 in
    record {
      is = (rw (n.is, d.is) at e) ∙ shear_fraction k.args.change k.args.n k.args.vertical k.args.airspeed t;
      le = shear_le k.args.change k.args.n k.args.vertical k.args.airspeed k.requires.0 k.requires.4 k.requires.1 (size_ge k.args.airspeed k.requires.2);
    }

pub overflow_cast-result : goal.overflow_cast-result
overflow_cast-result c = sfits w32 (local (result c) tt) (lit< tt)

pub returns : goal.returns
returns c = let r = kept w32 (local (result c) tt) (lit< tt) in (r.is, rw r.is r.le)
