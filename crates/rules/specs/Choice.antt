-- Choices and comparisons that the rules are written with.
use Rattle.std.specs.Prelude.{Bool, true, false, ◌&&◌, ◌||◌, cond, List, [], ◌∷◌, ℕ, eqb, ℤ, pos, neg_ℤ}
use Rattle.std.specs.Int.Signed.{le_z, lt_z}

-- the negative number of a size
abbrev pub neg : ℕ → ℤ
neg n = neg_ℤ (pos n)

-- the number of what failed, or what comes later
abbrev pub first_of : Bool → ℕ → ℕ → ℕ
first_of ok n later = cond ok later n

-- a number that was found, or where it is 0 what comes later
unfoldable pub or_else : (earlier later : ℕ) → ℕ
or_else earlier later = cond (eqb earlier 0) later earlier

-- from lo to hi, both ends in
unfoldable pub within : ℤ → ℤ → ℤ → Bool
within lo x hi = le_z lo x && le_z x hi

unfoldable pub same : ℤ → ℤ → Bool
same a b = le_z a b && le_z b a

unfoldable pub smaller : ℤ → ℤ → ℤ
smaller a b = cond (lt_z a b) a b

unfoldable pub larger : ℤ → ℤ → ℤ
larger a b = cond (lt_z a b) b a

-- what holds of every element of a list
abbrev pub AllOf {ℓ} : {A : Type ℓ} → (A → Type 0) → List A → Type 0
AllOf holds [] = Unit {0}
AllOf holds (a ∷ l) = holds a × AllOf holds l

-- whether some element of a list passes a test
unfoldable pub any_of {ℓ} : {A : Type ℓ} → (A → Bool) → List A → Bool
any_of f [] = false
any_of f (a ∷ l) = f a || any_of f l

-- whether every element of a list does
unfoldable pub every {ℓ} : {A : Type ℓ} → (A → Bool) → List A → Bool
every f [] = true
every f (a ∷ l) = f a && every f l
