-- Laws of a writer: texts written one after the other are one text.
use mathlib.Core.List.{List, [], ◌∷◌, ◌++◌, append_assoc, append-nil}
use mathlib.Core.Path.{◌≡◌, refl, sym, ap, ◌∙◌}
use Prim.Native.Nat.{ℕ, suc, ◌+◌}
use native.Mathlib.Nat.{add-zero}
use native.Mathlib.Numerals.{add-one}
use native.Mathlib.Omega.{arith}
use lib.ListN.{length, take, drop, set, length-append, length-drop, drop_of_length-le, take-append-drop}
use lib.Seq.{length-take-le, take_at, drop-drop, drop-append_seam, set_split}
use Rattle.text.specs.Text.{written, Wrote}
use Rattle.text.specs.Writer.{Puts, HasRoom}
use Rattle.text.specs.declared.Writer.{Writer}

-- nothing yet
pub nothing : (w : Writer) → Puts w [] w
nothing w =
    record {
      same_buffer = refl;
      size = refl;
      place = sym (add-zero w.at);
      before = sym (append-nil (take w.at w.out.now));
      behind = refl;
    }

-- a text after a text
pub then : {w x y : Writer} {a b : List ℕ} → Puts w a x → Puts x b y → Puts w (a ++ b) y
then {w} {x} {y} {a} {b} p q =
    record {
      same_buffer = q.same_buffer ∙ p.same_buffer;
      size = q.size ∙ p.size;
      place = rw length-append (omega (arith, p.place, q.place));
      before = q.before ∙ rw p.before (append_assoc (take w.at w.out.now) a b);
      behind = q.behind ∙ rw (p.behind, length-append, drop-drop (length b) (length a) (drop w.at w.out.now)) refl;
    }

-- a text copied in at the place
pub copied : {w x : Writer} {text copy : List ℕ} {k : ℕ} → HasRoom w (length text) → copy ≡ text → k ≡ length text
    → x.out.ghost_name ≡ w.out.ghost_name → x.at ≡ w.at + length text
    → x.out.now ≡ take w.at w.out.now ++ (copy ++ drop k (drop w.at w.out.now))
    → Puts w text x
copied {w} {x} {text} {copy} {k} room same count buffer place now =
    let old = w.out.now in
    let rest = drop (length text) (drop w.at old) in
    let is : x.out.now ≡ (take w.at old ++ text) ++ rest = now ∙ rw (same, count) (sym (append_assoc (take w.at old) text rest)) in
    let start : length (take w.at old) ≡ w.at = length-take-le w.at old (omega arith) in
    let front : length (take w.at old ++ text) ≡ w.at + length text = rw (length-append, start) refl in
    record {
      same_buffer = buffer;
      size = rw is (rw (length-append, front, length-drop, length-drop) (omega arith));
      place = place;
      before = rw (is, place) (take_at (take w.at old ++ text) rest (w.at + length text) front);
      behind = rw (is, place, ← front) (drop-append_seam (take w.at old ++ text) rest);
    }

-- a byte stored at the place
pub stored : {w x : Writer} {b : ℕ} → HasRoom w 1 → x.out.ghost_name ≡ w.out.ghost_name → x.at ≡ w.at + 1
    → x.out.now ≡ set w.out.now w.at b → Puts w (b ∷ []) x
stored {w} {x} {b} room buffer place now =
    let old = w.out.now in
    let behind : drop 1 (drop w.at old) ≡ drop (suc w.at) old = drop-drop 1 w.at old ∙ rw add-one refl in
    copied room refl refl buffer place (now ∙ set_split old w.at b (omega arith) ∙ rw behind refl)

-- where there was room, it is a text written at a place
pub wrote : {w x : Writer} {text : List ℕ} → Puts w text x → Wrote w.out.now w.at text x.at x.out.now
unfolding written
wrote {w} {x} {text} p =
    let old = w.out.now in
    (p.place, sym (take-append-drop x.at x.out.now) ∙ rw (p.before, p.behind, drop-drop (length text) w.at old) (append_assoc (take w.at old) text _))

-- a text as long as the buffer fills it
pub filled : {w x : Writer} {text : List ℕ} → Puts w text x → w.at ≡ 0 → length w.out.now ≡ length text → x.out.now ≡ text
unfolding written
filled {w} {x} {text} p first fits =
    let none = drop_of_length-le w.out.now {i = 0 + length text} (omega arith) in
    (rw first at (wrote p)).1 ∙ ap (λ (rest : List ℕ). text ++ rest) none ∙ append-nil text
