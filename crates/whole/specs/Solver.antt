-- The solver. `⇑ ρ (search ring) (omega ..)` proves a statement of whole numbers, and `⇓ ρ fact (search ring)` hands one to `omega`. ρ lists the
-- numbers that are taken as variables; both sides become polynomials in them, and `omega` sees one unknown for each monomial. Assumes nothing.
--
-- A polynomial in no variable is a number, and one in x ∷ ρ is the list of its coefficients at 1, x, x², .., each a polynomial in ρ.
use Rattle.std.specs.Prelude.{◌≡◌, refl, Bool, true, false, not, List, [], ◌∷◌, ℕ, zero, suc, ◌+◌, ◌*◌, ◌^◌, ◌≤◌, ◌<◌, ℤ, pos, negsuc, neg_ℤ, nat_abs, ◌+ℤ◌, ◌-ℤ◌, ◌*ℤ◌, ◌≤ℤ◌, ◌<ℤ◌, T, leb}
use Rattle.std.proofs.Common.{sym, ap, ap₂, ◌∙◌, subst, arith, ⊎_elim, to_z-of_z}
use Rattle.std.proofs.Math.IntN.{+ℤ_idl, +ℤ_idr, *ℤ-zero, zero-*ℤ}
use Rattle.std.specs.Int.Signed.{le_z, lt_z, lt_z_no, clash_ℤ, mag}
use Rattle.std.specs.Int.{Width}
use mir.Val.{SFits, hbits, to_z, of_z}
use Rattle.whole.specs.Parts.{pos_part, neg_part, ≤→, →≤, <→, →<, ≡→, →≡, parts_add, pos_part_mul, neg_part_mul, pos_part_neg, neg_part_neg}
use Rattle.whole.specs.Small as Z
use Rattle.whole.specs.Small.{small, #1, #3, #4}
use Rattle.whole.specs.Laws.{*_assoc, *-+, ≤_total}

abbrev pub Poly : List ℤ → Type 0
Poly [] = ℤ
Poly (x ∷ ρ) = List (Poly ρ)

-- ---- the value
abbrev pub value_l : {A : Type 0} → (A → ℤ) → ℤ → List A → ℤ
value_l f x [] = pos 0
value_l f x (c ∷ cs) = f c +ℤ x *ℤ value_l f x cs

abbrev pub value : (ρ : List ℤ) → Poly ρ → ℤ
value [] k = k
value (x ∷ ρ) cs = value_l (value ρ) x cs

-- ---- the operations
abbrev pub constant : (ρ : List ℤ) → ℤ → Poly ρ
constant [] k = k
constant (x ∷ ρ) k = constant ρ k ∷ []

abbrev pub zip_l : {A : Type 0} → (A → A → A) → List A → List A → List A
zip_l f [] bs = bs
zip_l f (a ∷ ls) [] = a ∷ ls
zip_l f (a ∷ ls) (b ∷ bs) = f a b ∷ zip_l f ls bs

abbrev pub map_l : {A : Type 0} → (A → A) → List A → List A
map_l f [] = []
map_l f (a ∷ ls) = f a ∷ map_l f ls

abbrev pub plus : (ρ : List ℤ) → Poly ρ → Poly ρ → Poly ρ
plus [] a b = a +ℤ b
plus (x ∷ ρ) ls bs = zip_l (plus ρ) ls bs

abbrev pub minus : (ρ : List ℤ) → Poly ρ → Poly ρ
minus [] a = neg_ℤ a
minus (x ∷ ρ) ls = map_l (minus ρ) ls

abbrev pub mul_l : {A : Type 0} → (A → A → A) → (A → A → A) → A → List A → List A → List A
mul_l s m z [] bs = []
mul_l s m z (a ∷ ls) bs = zip_l s (map_l (m a) bs) (z ∷ mul_l s m z ls bs)

abbrev pub times : (ρ : List ℤ) → Poly ρ → Poly ρ → Poly ρ
times [] a b = a *ℤ b
times (x ∷ ρ) ls bs = mul_l (plus ρ) (times ρ) (constant ρ (pos 0)) ls bs

-- ---- their laws
cons_lemma : (a b x c d : ℤ) → (a +ℤ b) +ℤ x *ℤ (c +ℤ d) ≡ (a +ℤ x *ℤ c) +ℤ (b +ℤ x *ℤ d)
cons_lemma a b x c d = let ρ = #4 a b c d in let σ = #1 x in Z.⇑ (search small depth 9) (omega arith)

neg_lemma : (a x c : ℤ) → neg_ℤ a +ℤ x *ℤ neg_ℤ c ≡ neg_ℤ (a +ℤ x *ℤ c)
neg_lemma a x c = let ρ = #3 a x c in Z.⇑ (search small depth 9) (omega arith)

scale_lemma : (k a x c : ℤ) → k *ℤ a +ℤ x *ℤ (k *ℤ c) ≡ k *ℤ (a +ℤ x *ℤ c)
scale_lemma k a x c = let ρ = #4 k a x c in Z.⇑ (search small depth 9) (omega arith)

mul_lemma : (a x c b : ℤ) → a *ℤ b +ℤ (pos 0 +ℤ x *ℤ (c *ℤ b)) ≡ (a +ℤ x *ℤ c) *ℤ b
mul_lemma a x c b = let ρ = #4 a x c b in Z.⇑ (search small depth 9) (omega arith)

con_ok : (ρ : List ℤ) (k : ℤ) → value ρ (constant ρ k) ≡ k
con_ok [] k = refl
con_ok (x ∷ ρ) k = ap (λ (y : ℤ). value ρ (constant ρ k) +ℤ y) (*ℤ-zero x) ∙ +ℤ_idr (value ρ (constant ρ k)) ∙ con_ok ρ k

module _ {A : Type 0} (f : A → ℤ) (x : ℤ) where
  zip_ok : (g : A → A → A) → ((a b : A) → f (g a b) ≡ f a +ℤ f b) → (ls bs : List A) → value_l f x (zip_l g ls bs) ≡ value_l f x ls +ℤ value_l f x bs
  zip_ok g h [] bs = sym (+ℤ_idl (value_l f x bs))
  zip_ok g h (a ∷ ls) [] = sym (+ℤ_idr (value_l f x (a ∷ ls)))
  zip_ok g h (a ∷ ls) (b ∷ bs) =
      ap₂ (λ (y z : ℤ). y +ℤ x *ℤ z) (h a b) (zip_ok g h ls bs) ∙ cons_lemma (f a) (f b) x (value_l f x ls) (value_l f x bs)

  neg_map : (g : A → A) → ((a : A) → f (g a) ≡ neg_ℤ (f a)) → (ls : List A) → value_l f x (map_l g ls) ≡ neg_ℤ (value_l f x ls)
  neg_map g h [] = refl
  neg_map g h (a ∷ ls) = ap₂ (λ (y z : ℤ). y +ℤ x *ℤ z) (h a) (neg_map g h ls) ∙ neg_lemma (f a) x (value_l f x ls)

  scale_map : (k : ℤ) (g : A → A) → ((a : A) → f (g a) ≡ k *ℤ f a) → (ls : List A) → value_l f x (map_l g ls) ≡ k *ℤ value_l f x ls
  scale_map k g h [] = sym (*ℤ-zero k)
  scale_map k g h (a ∷ ls) = ap₂ (λ (y z : ℤ). y +ℤ x *ℤ z) (h a) (scale_map k g h ls) ∙ scale_lemma k (f a) x (value_l f x ls)

  mul_list : (s m : A → A → A) (z : A) → ((a b : A) → f (s a b) ≡ f a +ℤ f b) → ((a b : A) → f (m a b) ≡ f a *ℤ f b) → f z ≡ pos 0 → (ls bs : List A) → value_l f x (mul_l s m z ls bs) ≡ value_l f x ls *ℤ value_l f x bs
  mul_list s m z h k e [] bs = sym (zero-*ℤ (value_l f x bs))
  mul_list s m z h k e (a ∷ ls) bs =
      zip_ok s h (map_l (m a) bs) (z ∷ mul_l s m z ls bs)
      ∙ ap₂ ◌+ℤ◌ (scale_map (f a) (m a) (k a) bs) (ap₂ (λ (y w : ℤ). y +ℤ x *ℤ w) e (mul_list s m z h k e ls bs))
      ∙ mul_lemma (f a) x (value_l f x ls) (value_l f x bs)

padd_ok : (ρ : List ℤ) (a b : Poly ρ) → value ρ (plus ρ a b) ≡ value ρ a +ℤ value ρ b
padd_ok [] a b = refl
padd_ok (x ∷ ρ) a b = zip_ok (value ρ) x (plus ρ) (padd_ok ρ) a b

pneg_ok : (ρ : List ℤ) (a : Poly ρ) → value ρ (minus ρ a) ≡ neg_ℤ (value ρ a)
pneg_ok [] a = refl
pneg_ok (x ∷ ρ) a = neg_map (value ρ) x (minus ρ) (pneg_ok ρ) a

pmul_ok : (ρ : List ℤ) (a b : Poly ρ) → value ρ (times ρ a b) ≡ value ρ a *ℤ value ρ b
pmul_ok [] a b = refl
pmul_ok (x ∷ ρ) a b = mul_list (value ρ) x (plus ρ) (times ρ) (constant ρ (pos 0)) (padd_ok ρ) (pmul_ok ρ) (con_ok ρ (pos 0)) a b

-- ---- monomials: 1, or a product
pub data Monomial : Type 0 where
  one : Monomial
  mk : ℤ → Monomial

abbrev pub monomial_value : Monomial → ℤ
monomial_value one = pos 1
monomial_value (mk z) = z

abbrev pub extended : Monomial → ℤ → Monomial
extended one x = mk x
extended (mk z) x = mk (z *ℤ x)

-- the positive (`true`) or the negative part of k times a monomial
abbrev pub term : Bool → Monomial → ℤ → ℕ
term true one k = pos_part k
term true (mk z) (pos zero) = 0
term true (mk z) (pos (suc n)) = suc n * pos_part z
term true (mk z) (negsuc n) = suc n * neg_part z
term false one k = neg_part k
term false (mk z) (pos zero) = 0
term false (mk z) (pos (suc n)) = suc n * neg_part z
term false (mk z) (negsuc n) = suc n * pos_part z

abbrev pub linear_l : {A : Type 0} → (Monomial → A → ℕ) → ℤ → Monomial → List A → ℕ
linear_l f x m [] = 0
linear_l f x m (c ∷ cs) = f m c + linear_l f x (extended m x) cs

abbrev pub linear : Bool → (ρ : List ℤ) → Monomial → Poly ρ → ℕ
linear s [] m k = term s m k
linear s (x ∷ ρ) m cs = linear_l (linear s ρ) x m cs

ext_ok : (m : Monomial) (x : ℤ) → monomial_value (extended m x) ≡ monomial_value m *ℤ x
ext_ok one x = let ρ = #1 x in Z.⇑ (search small) (omega arith)
ext_ok (mk z) x = refl

abbrev IsDifference : ℤ → ℕ → ℕ → Type 0
IsDifference z p n = pos_part z + n ≡ p + neg_part z

term_ok : (m : Monomial) (k : ℤ) → IsDifference (monomial_value m *ℤ k) (term true m k) (term false m k)
term_ok one k = omega (arith, pos_part_mul (pos 1) k, neg_part_mul (pos 1) k)
term_ok (mk z) (pos zero) = omega (arith, pos_part_mul z (pos 0), neg_part_mul z (pos 0))
term_ok (mk z) (pos (suc n)) = omega (arith, pos_part_mul z (pos (suc n)), neg_part_mul z (pos (suc n)))
term_ok (mk z) (negsuc n) = omega (arith, pos_part_mul z (negsuc n), neg_part_mul z (negsuc n))

lin_split : (m c x cs : ℤ) → m *ℤ (c +ℤ x *ℤ cs) ≡ m *ℤ c +ℤ m *ℤ x *ℤ cs
lin_split m c x cs = *-+ m c (x *ℤ cs) ∙ ap (λ (y : ℤ). m *ℤ c +ℤ y) (sym (*_assoc m x cs))

is_at : {y z : ℤ} (p n : ℕ) → y ≡ z → IsDifference z p n → IsDifference y p n
is_at {y} {z} p n e h = subst (λ (w : ℤ). IsDifference w p n) (sym e) h

is_add : (x y : ℤ) (p n q m : ℕ) → IsDifference x p n → IsDifference y q m → IsDifference (x +ℤ y) (p + q) (n + m)
is_add x y p n q m h k = omega (arith, parts_add x y)

module _ {A : Type 0} (v : A → ℤ) (f g : Monomial → A → ℕ) (h : (m : Monomial) (a : A) → IsDifference (monomial_value m *ℤ v a) (f m a) (g m a)) (x : ℤ) where
  lin_l_ok : (ls : List A) (m : Monomial) → IsDifference (monomial_value m *ℤ value_l v x ls) (linear_l f x m ls) (linear_l g x m ls)
  lin_l_ok [] m = is_at 0 0 (*ℤ-zero (monomial_value m)) refl
  lin_l_ok (a ∷ ls) m =
      is_at (linear_l f x m (a ∷ ls)) (linear_l g x m (a ∷ ls)) (lin_split (monomial_value m) (v a) x (value_l v x ls))
      (is_add (monomial_value m *ℤ v a) (monomial_value m *ℤ x *ℤ value_l v x ls) (f m a) (g m a) (linear_l f x (extended m x) ls) (linear_l g x (extended m x) ls) (h m a)
      (is_at (linear_l f x (extended m x) ls) (linear_l g x (extended m x) ls) (ap (λ (y : ℤ). y *ℤ value_l v x ls) (sym (ext_ok m x))) (lin_l_ok ls (extended m x))))

lin_ok : (ρ : List ℤ) (m : Monomial) (p : Poly ρ) → IsDifference (monomial_value m *ℤ value ρ p) (linear true ρ m p) (linear false ρ m p)
lin_ok [] m k = term_ok m k
lin_ok (x ∷ ρ) m cs = lin_l_ok (value ρ) (linear true ρ) (linear false ρ) (lin_ok ρ) x cs m

-- ---- z is a polynomial in the variables of ρ
pub record IsPolynomial (ρ : List ℤ) (z : ℤ) : Type 0 where
  pub poly : Poly ρ
  pub ok : z ≡ value ρ poly

pub con_is : (ρ : List ℤ) (k : ℤ) → k ≡ value ρ (constant ρ k)
con_is ρ k = sym (con_ok ρ k)

pub add_is : (ρ : List ℤ) (y z : ℤ) (p q : Poly ρ) → y ≡ value ρ p → z ≡ value ρ q → y +ℤ z ≡ value ρ (plus ρ p q)
add_is ρ y z p q h k = ap₂ ◌+ℤ◌ h k ∙ sym (padd_ok ρ p q)

pub neg_is : (ρ : List ℤ) (y : ℤ) (p : Poly ρ) → y ≡ value ρ p → neg_ℤ y ≡ value ρ (minus ρ p)
neg_is ρ y p h = ap neg_ℤ h ∙ sym (pneg_ok ρ p)

pub mul_is : (ρ : List ℤ) (y z : ℤ) (p q : Poly ρ) → y ≡ value ρ p → z ≡ value ρ q → y *ℤ z ≡ value ρ (times ρ p q)
mul_is ρ y z p q h k = ap₂ ◌*ℤ◌ h k ∙ sym (pmul_ok ρ p q)

pub var_is : (x : ℤ) (ρ : List ℤ) → x ≡ value (x ∷ ρ) (constant ρ (pos 0) ∷ constant ρ (pos 1) ∷ [])
var_is x ρ = here ∙ ap₂ (λ (y z : ℤ). y +ℤ x *ℤ (z +ℤ x *ℤ pos 0)) (con_is ρ (pos 0)) (con_is ρ (pos 1))
  where
    here : x ≡ pos 0 +ℤ x *ℤ (pos 1 +ℤ x *ℤ pos 0)
    here = let σ = #1 x in Z.⇑ (search small depth 9) (omega arith)

pub up_is : (y z : ℤ) (ρ : List ℤ) (p : Poly ρ) → z ≡ value ρ p → z ≡ value (y ∷ ρ) (p ∷ [])
up_is y z ρ p h = h ∙ sym (ap (λ (w : ℤ). value ρ p +ℤ w) (*ℤ-zero y) ∙ +ℤ_idr (value ρ p))

-- a numeral. The premise computes at a numeral alone, so that `search` takes no variable for one
abbrev pub lit : {ρ : List ℤ} (n : ℕ) → T (leb n n) → IsPolynomial ρ (pos n)
lit {ρ} n t = record { poly = constant ρ (pos n); ok = con_is ρ (pos n) }

abbrev pub ngl : {ρ : List ℤ} (n : ℕ) → T (leb n n) → IsPolynomial ρ (negsuc n)
ngl {ρ} n t = record { poly = constant ρ (negsuc n); ok = con_is ρ (negsuc n) }

abbrev pub add : {ρ : List ℤ} {y z : ℤ} → IsPolynomial ρ y → IsPolynomial ρ z → IsPolynomial ρ (y +ℤ z)
add {ρ} {y} {z} e f = record { poly = plus ρ e.poly f.poly; ok = add_is ρ y z e.poly f.poly e.ok f.ok }

abbrev pub neg : {ρ : List ℤ} {y : ℤ} → IsPolynomial ρ y → IsPolynomial ρ (neg_ℤ y)
neg {ρ} {y} e = record { poly = minus ρ e.poly; ok = neg_is ρ y e.poly e.ok }

abbrev pub mul : {ρ : List ℤ} {y z : ℤ} → IsPolynomial ρ y → IsPolynomial ρ z → IsPolynomial ρ (y *ℤ z)
mul {ρ} {y} {z} e f = record { poly = times ρ e.poly f.poly; ok = mul_is ρ y z e.poly f.poly e.ok f.ok }

-- `pos m +ℤ pos n` and `pos m *ℤ pos n` compute, to `pos (m + n)` and `pos (m * n)`
abbrev pub add_pos : {ρ : List ℤ} {m n : ℕ} → IsPolynomial ρ (pos m) → IsPolynomial ρ (pos n) → IsPolynomial ρ (pos (m + n))
add_pos e f = add e f

abbrev pub mul_pos : {ρ : List ℤ} {m n : ℕ} → IsPolynomial ρ (pos m) → IsPolynomial ρ (pos n) → IsPolynomial ρ (pos (m * n))
mul_pos e f = mul e f

abbrev pub v0 : {x : ℤ} {ρ : List ℤ} → IsPolynomial (x ∷ ρ) x
v0 {x} {ρ} = record { poly = constant ρ (pos 0) ∷ constant ρ (pos 1) ∷ []; ok = var_is x ρ }

abbrev pub up : {y z : ℤ} {ρ : List ℤ} → IsPolynomial ρ z → IsPolynomial (y ∷ ρ) z
up {y} {z} {ρ} e = record { poly = e.poly ∷ []; ok = up_is y z ρ e.poly e.ok }

abbrev pub v1 : {a x : ℤ} {ρ : List ℤ} → IsPolynomial (a ∷ x ∷ ρ) x
v1 = up v0

abbrev pub v2 : {a b x : ℤ} {ρ : List ℤ} → IsPolynomial (a ∷ b ∷ x ∷ ρ) x
v2 = up v1

abbrev pub v3 : {a b c x : ℤ} {ρ : List ℤ} → IsPolynomial (a ∷ b ∷ c ∷ x ∷ ρ) x
v3 = up v2

abbrev pub v4 : {a b c d x : ℤ} {ρ : List ℤ} → IsPolynomial (a ∷ b ∷ c ∷ d ∷ x ∷ ρ) x
v4 = up v3

abbrev pub v5 : {a b c d e x : ℤ} {ρ : List ℤ} → IsPolynomial (a ∷ b ∷ c ∷ d ∷ e ∷ x ∷ ρ) x
v5 = up v4

abbrev pub v6 : {a b c d e f x : ℤ} {ρ : List ℤ} → IsPolynomial (a ∷ b ∷ c ∷ d ∷ e ∷ f ∷ x ∷ ρ) x
v6 = up v5

abbrev pub v7 : {a b c d e f g x : ℤ} {ρ : List ℤ} → IsPolynomial (a ∷ b ∷ c ∷ d ∷ e ∷ f ∷ g ∷ x ∷ ρ) x
v7 = up v6

abbrev pub v8 : {a b c d e f g h x : ℤ} {ρ : List ℤ} → IsPolynomial (a ∷ b ∷ c ∷ d ∷ e ∷ f ∷ g ∷ h ∷ x ∷ ρ) x
v8 = up v7

abbrev pub v9 : {a b c d e f g h i x : ℤ} {ρ : List ℤ} → IsPolynomial (a ∷ b ∷ c ∷ d ∷ e ∷ f ∷ g ∷ h ∷ i ∷ x ∷ ρ) x
v9 = up v8

abbrev pub v10 : {a b c d e f g h i j x : ℤ} {ρ : List ℤ} → IsPolynomial (a ∷ b ∷ c ∷ d ∷ e ∷ f ∷ g ∷ h ∷ i ∷ j ∷ x ∷ ρ) x
v10 = up v9

abbrev pub v11 : {a b c d e f g h i j k x : ℤ} {ρ : List ℤ} → IsPolynomial (a ∷ b ∷ c ∷ d ∷ e ∷ f ∷ g ∷ h ∷ i ∷ j ∷ k ∷ x ∷ ρ) x
v11 = up v10

-- ---- statements: what one says of ℕ, by the difference of its two sides
pub record Stated (ρ : List ℤ) (A : Type 0) : Type 1 where
  pub Reading : Type 0
  pub up : Reading → A
  pub down : A → Reading

module _ (ρ : List ℤ) (y z : ℤ) (p q : Poly ρ) (h : y ≡ value ρ p) (k : z ≡ value ρ q) where
  diff : IsDifference (z -ℤ y) (linear true ρ one (plus ρ q (minus ρ p))) (linear false ρ one (plus ρ q (minus ρ p)))
  diff =
      is_at (linear true ρ one (plus ρ q (minus ρ p))) (linear false ρ one (plus ρ q (minus ρ p)))
      (add_is ρ z (neg_ℤ y) q (minus ρ p) k (neg_is ρ y p h) ∙ sym (one-*' (value ρ (plus ρ q (minus ρ p)))))
      (lin_ok ρ one (plus ρ q (minus ρ p)))
    where
      one-*' : (a : ℤ) → pos 1 *ℤ a ≡ a
      one-*' a = let σ = #1 a in Z.⇑ (search small) (omega arith)

  sides : pos_part z + neg_part y + linear false ρ one (plus ρ q (minus ρ p)) ≡ linear true ρ one (plus ρ q (minus ρ p)) + (pos_part y + neg_part z)
  sides = omega (arith, diff, parts_add z (neg_ℤ y), pos_part_neg y, neg_part_neg y)

  pub le_up : linear false ρ one (plus ρ q (minus ρ p)) ≤ linear true ρ one (plus ρ q (minus ρ p)) → y ≤ℤ z
  le_up l = →≤ (omega (arith, sides))

  pub le_down : y ≤ℤ z → linear false ρ one (plus ρ q (minus ρ p)) ≤ linear true ρ one (plus ρ q (minus ρ p))
  le_down l = omega (arith, sides, ≤→ l)

  pub lt_up : linear false ρ one (plus ρ q (minus ρ p)) < linear true ρ one (plus ρ q (minus ρ p)) → y <ℤ z
  lt_up l = →< (omega (arith, sides))

  pub lt_down : y <ℤ z → linear false ρ one (plus ρ q (minus ρ p)) < linear true ρ one (plus ρ q (minus ρ p))
  lt_down l = omega (arith, sides, <→ l)

  pub eq_up : linear false ρ one (plus ρ q (minus ρ p)) ≡ linear true ρ one (plus ρ q (minus ρ p)) → y ≡ z
  eq_up l = →≡ (omega (arith, sides))

  pub eq_down : y ≡ z → linear false ρ one (plus ρ q (minus ρ p)) ≡ linear true ρ one (plus ρ q (minus ρ p))
  eq_down l = omega (arith, sides, ≡→ l)

module _ {ρ : List ℤ} {y z : ℤ} (e : IsPolynomial ρ y) (f : IsPolynomial ρ z) where
  abbrev pub le : Stated ρ (y ≤ℤ z)
  le = record { Reading = linear false ρ one (plus ρ f.poly (minus ρ e.poly)) ≤ linear true ρ one (plus ρ f.poly (minus ρ e.poly)); up = le_up ρ y z e.poly f.poly e.ok f.ok; down = le_down ρ y z e.poly f.poly e.ok f.ok }

  abbrev pub lt : Stated ρ (y <ℤ z)
  lt = record { Reading = linear false ρ one (plus ρ f.poly (minus ρ e.poly)) < linear true ρ one (plus ρ f.poly (minus ρ e.poly)); up = lt_up ρ y z e.poly f.poly e.ok f.ok; down = lt_down ρ y z e.poly f.poly e.ok f.ok }

  abbrev pub eq : Stated ρ (y ≡ z)
  eq = record { Reading = linear false ρ one (plus ρ f.poly (minus ρ e.poly)) ≡ linear true ρ one (plus ρ f.poly (minus ρ e.poly)); up = eq_up ρ y z e.poly f.poly e.ok f.ok; down = eq_down ρ y z e.poly f.poly e.ok f.ok }

-- ---- a signed number of the machine. A local holds bits, so a need speaks of `to_z w (of_z w z)`, which is z where z fits
pub back_is : (ρ : List ℤ) {w : Width} {z : ℤ} (p : Poly ρ) → SFits w z → z ≡ value ρ p → to_z w (of_z w z) ≡ value ρ p
back_is ρ {w} {z} p f h = to_z-of_z f ∙ h

abbrev pub back : {ρ : List ℤ} {w : Width} {z : ℤ} → SFits w z → IsPolynomial ρ z → IsPolynomial ρ (to_z w (of_z w z))
back {ρ} {w} {z} f e = record { poly = e.poly; ok = back_is ρ e.poly f e.ok }

-- the same, to list beside `ring`: `search (ring, value_of ρ (add-result c))`, where `add-result` shows that the sum fits
abbrev pub value_of : (ρ : List ℤ) {w : Width} {z : ℤ} → SFits w z → IsPolynomial ρ z → IsPolynomial ρ (to_z w (of_z w z))
value_of ρ f e = back f e

mag_of : (z : ℤ) (p n H : ℕ) → IsDifference z p n → n ≤ p + H → p < n + H → mag z < H
mag_of (pos a) p n H e h k = omega arith
mag_of (negsuc a) p n H e h k = omega arith

of_mag : (z : ℤ) (p n H : ℕ) → IsDifference z p n → mag z < H → (n ≤ p + H) × (p < n + H)
of_mag (pos a) p n H e h = omega arith
of_mag (negsuc a) p n H e h = omega arith

self : (ρ : List ℤ) (z : ℤ) (p : Poly ρ) → z ≡ value ρ p → IsDifference z (linear true ρ one p) (linear false ρ one p)
self ρ z p h = is_at (linear true ρ one p) (linear false ρ one p) (h ∙ sym (one-*' (value ρ p))) (lin_ok ρ one p)
  where
    one-*' : (a : ℤ) → pos 1 *ℤ a ≡ a
    one-*' a = let σ = #1 a in Z.⇑ (search small) (omega arith)

pub sfits_up : (ρ : List ℤ) {w : Width} {z : ℤ} (p : Poly ρ) → z ≡ value ρ p → (linear false ρ one p ≤ linear true ρ one p + 2 ^ hbits w) × (linear true ρ one p < linear false ρ one p + 2 ^ hbits w) → SFits w z
sfits_up ρ {w} {z} p h k = record { sfits = mag_of z (linear true ρ one p) (linear false ρ one p) (2 ^ hbits w) (self ρ z p h) k.0 k.1 }

pub sfits_down : (ρ : List ℤ) {w : Width} {z : ℤ} (p : Poly ρ) → z ≡ value ρ p → SFits w z → (linear false ρ one p ≤ linear true ρ one p + 2 ^ hbits w) × (linear true ρ one p < linear false ρ one p + 2 ^ hbits w)
sfits_down ρ {w} {z} p h k = of_mag z (linear true ρ one p) (linear false ρ one p) (2 ^ hbits w) (self ρ z p h) k.sfits

abbrev pub fit : {ρ : List ℤ} {w : Width} {z : ℤ} → IsPolynomial ρ z → Stated ρ (SFits w z)
fit {ρ} {w} {z} e = record { Reading = (linear false ρ one e.poly ≤ linear true ρ one e.poly + 2 ^ hbits w) × (linear true ρ one e.poly < linear false ρ one e.poly + 2 ^ hbits w); up = sfits_up ρ e.poly e.ok; down = sfits_down ρ e.poly e.ok }

-- |z| ≤ n
pub abs_up : (ρ : List ℤ) {z : ℤ} (n : ℕ) (p : Poly ρ) → z ≡ value ρ p → (linear false ρ one p ≤ linear true ρ one p + n) × (linear true ρ one p ≤ linear false ρ one p + n) → nat_abs z ≤ n
abs_up ρ {z} n p h k = go z (linear true ρ one p) (linear false ρ one p) (self ρ z p h) k.0 k.1
  where
    go : (z : ℤ) (p m : ℕ) → IsDifference z p m → m ≤ p + n → p ≤ m + n → nat_abs z ≤ n
    go (pos a) p m e h k = omega arith
    go (negsuc a) p m e h k = omega arith

pub abs_down : (ρ : List ℤ) {z : ℤ} (n : ℕ) (p : Poly ρ) → z ≡ value ρ p → nat_abs z ≤ n → (linear false ρ one p ≤ linear true ρ one p + n) × (linear true ρ one p ≤ linear false ρ one p + n)
abs_down ρ {z} n p h k = go z (linear true ρ one p) (linear false ρ one p) (self ρ z p h) k
  where
    go : (z : ℤ) (p m : ℕ) → IsDifference z p m → nat_abs z ≤ n → (m ≤ p + n) × (p ≤ m + n)
    go (pos a) p m e h = omega arith
    go (negsuc a) p m e h = omega arith

abbrev pub abs : {ρ : List ℤ} {z : ℤ} (n : ℕ) → IsPolynomial ρ z → Stated ρ (nat_abs z ≤ n)
abs {ρ} {z} n e = record { Reading = (linear false ρ one e.poly ≤ linear true ρ one e.poly + n) × (linear true ρ one e.poly ≤ linear false ρ one e.poly + n); up = abs_up ρ n e.poly e.ok; down = abs_down ρ n e.poly e.ok }

-- ---- what a branch's test tells
is_true : (t : Bool) → T t → t ≡ true
is_true true h = refl
is_true false h = absurd h

is_false : (t : Bool) → T (not t) → t ≡ false
is_false true h = absurd h
is_false false h = refl

pub lt_yes : {a b : ℤ} → lt_z a b ≡ true → a <ℤ b
lt_yes e = record { lt = subst T (sym e) tt }

pub yes_lt : {a b : ℤ} → a <ℤ b → lt_z a b ≡ true
yes_lt {a} {b} h = is_true (lt_z a b) h.lt

pub lt_no : {a b : ℤ} → lt_z a b ≡ false → b ≤ℤ a
lt_no {a} {b} e = lt_z_no (subst (λ (t : Bool). T (not t)) (sym e) tt)

pub no_lt : {a b : ℤ} → b ≤ℤ a → lt_z a b ≡ false
no_lt {a} {b} h = go (lt_z a b) refl
  where
    go : (t : Bool) → lt_z a b ≡ t → lt_z a b ≡ false
    go true e = clash_ℤ (lt_yes {a = a} {b = b} e) h
    go false e = e

pub le_yes : {a b : ℤ} → le_z a b ≡ true → a ≤ℤ b
le_yes e = record { le = subst T (sym e) tt }

pub yes_le : {a b : ℤ} → a ≤ℤ b → le_z a b ≡ true
yes_le {a} {b} h = is_true (le_z a b) h.le

pub no_le : {a b : ℤ} → b <ℤ a → le_z a b ≡ false
no_le {a} {b} h = go (le_z a b) refl
  where
    go : (t : Bool) → le_z a b ≡ t → le_z a b ≡ false
    go true e = clash_ℤ h (le_yes e)
    go false e = e

pub le_no : {a b : ℤ} → le_z a b ≡ false → b <ℤ a
le_no {a} {b} e = ⊎_elim (λ (h : a ≤ℤ b). absurd (subst T e h.le)) (λ (h : b <ℤ a). h) (≤_total a b)

module _ {ρ : List ℤ} {y z : ℤ} (e : IsPolynomial ρ y) (f : IsPolynomial ρ z) where
  abbrev pub lt_t : Stated ρ (lt_z y z ≡ true)
  lt_t = record { Reading = (lt e f).Reading; up = λ h. yes_lt ((lt e f).up h); down = λ h. (lt e f).down (lt_yes h) }

  abbrev pub lt_f : Stated ρ (lt_z y z ≡ false)
  lt_f = record { Reading = (le f e).Reading; up = λ h. no_lt ((le f e).up h); down = λ h. (le f e).down (lt_no h) }

  abbrev pub le_t : Stated ρ (le_z y z ≡ true)
  le_t = record { Reading = (le e f).Reading; up = λ h. yes_le ((le e f).up h); down = λ h. (le e f).down (le_yes h) }

  abbrev pub le_f : Stated ρ (le_z y z ≡ false)
  le_f = record { Reading = (lt f e).Reading; up = λ h. no_le ((lt f e).up h); down = λ h. (lt f e).down (le_no h) }

pub ⇑ : (ρ : List ℤ) {A : Type 0} (s : Stated ρ A) → s.Reading → A
⇑ ρ s h = s.up h

pub ⇓ : (ρ : List ℤ) {A : Type 0} → A → (s : Stated ρ A) → s.Reading
⇓ ρ h s = s.down h

pub ruleset ring = (le, lt, eq, fit, abs, lt_t, lt_f, le_t, le_f, v0, v1, v2, v3, v4, v5, v6, v7, v8, v9, v10, v11, add, mul, neg, add_pos, mul_pos, lit, ngl, tt, back)
