-- The laws of minors of squares.
use Rattle.std.proofs.Common.{◌≡◌, ◌≢◌, inl, inr, ℕ, ◌+◌, ◌-◌, ◌*◌, ◌<◌, ◌≤◌, cond, eqb, ℤ, pos, negsuc, ◌+ℤ◌, ◌-ℤ◌, ◌*ℤ◌, neg_ℤ, unsigned_abs, List, [], ◌∷◌, length, get_or, set, map, refl, sym, ap, subst, ◌∙◌, arith}
use Rattle.std.proofs.Math.IntN.{*ℤ_comm, +ℤ_idr}
use Rattle.std.proofs.Math.ListN.{get_or-map as get_or-map_default}
use Rattle.std.proofs.lemmas.List.{get_or-set_same, get_or-set_other, length-set, map-set, length-map, get_or-map, get_or_past}
use Rattle.std.proofs.lemmas.List.FromFn.{length-range_with_len, length-map-range_with_len, get_or-map-range_with_len}
use Rattle.std.specs.List.{range_with_len, AllByRecursion}
use Rattle.std.proofs.Math.Nat.{mul-le-mul}
use Rattle.std.proofs.lemmas.Bool.{cases_eq, cases_lt}
use Rattle.std.proofs.lemmas.Bool.Decides.{nat_tests}
use Rattle.std.proofs.lemmas.Int.{unsigned_abs-mul}
use Rattle.minors.specs.Minor.{minor, minor_at, factorial, HasSmallEntries}
use Rattle.row_laws.specs.Rows.{dot, entry}
use Rattle.minors.specs.Combination.{column_of, IsCombination}
use Rattle.minors.specs.Laws.{LinearInEachRow, ZeroAtEqualRows, OneAtIdentity, ScaleOfIdentity, ReplacedRow, FactorIsMinor, ScaleAfterPivot, PivotDivides, PivotKeepsCombination, LeavingRowIsCombination, SquareRowIsCombination, SumOfCombinations, CombinationAtPoint, NegatedCombination, NegatedScale, MinorIsBounded, FactorIsBounded, ScaleIsBounded, BoundIsSmall}
use Rattle.row_laws.proofs.Integers.{sums, mul-add, mul_assoc, mul_left_comm, zero-mul, one-mul, neg-mul, mul-neg, cancel, cancel_ℕ, abs_positive, same_size, unsigned_abs-neg}
use Rattle.minors.proofs.MinorAt.{nothing, minor_at_linear, minor_at_equal, minor_at_replaced, minor_at_within, all_in_range, minor_at_identity, sum_of_rows}
use Rattle.minors.proofs.Bound.{minor_at_bound, product_of_range, last_most, product_of, factorial_mono, below_power}
use Rattle.row_laws.proofs.RowLemmas.{dot-neg_left}
use Rattle.row_laws.proofs.Totals.{total, total-zero, dot_is_total, total_same, total_linear, total_exchange, total_single}

abbrev columns_of : List (List ℤ) → List ℕ
columns_of rows = range_with_len 0 (length rows)

-- the minor with a row replaced, over functions of the column
minor-set : (rows : List (List ℤ)) (k : ℕ) (row : List ℤ) → minor (set rows k row) ≡ minor_at (set (map entry rows) k (entry row)) (columns_of rows)
unfolding minor
minor-set rows k row =
    ap (λ (all : List (ℕ → ℤ)). minor_at all (columns_of (set rows k row))) (map-set entry rows k row)
    ∙ ap (λ n. minor_at (set (map entry rows) k (entry row)) (range_with_len 0 n)) (length-set rows k row)

in_square : (rows : List (List ℤ)) → AllByRecursion (λ c. c < length rows) (columns_of rows)
in_square rows = all_in_range (λ c. c < length rows) 0 (length rows) (λ j l. omega arith)

pub linear_in_each_row : LinearInEachRow
linear_in_each_row rows k x y a b row h each =
    let R : List (ℕ → ℤ) = map entry rows in
    let len : length R ≡ length rows = length-map rows entry in
    let cols : List ℕ = columns_of rows in
    minor-set rows k row
    ∙ minor_at_within (λ c. c < length rows) R k (entry row) (λ c. x *ℤ entry a c +ℤ y *ℤ entry b c) cols (in_square rows) each
    ∙ minor_at_linear R k x y (entry a) (entry b) cols (omega arith)
    ∙ ap (λ (n : ℤ). x *ℤ n +ℤ y *ℤ minor_at (set R k (entry b)) cols) (sym (minor-set rows k a))
    ∙ ap (λ (n : ℤ). x *ℤ minor (set rows k a) +ℤ y *ℤ n) (sym (minor-set rows k b))

pub zero_at_equal_rows : ZeroAtEqualRows
unfolding minor
zero_at_equal_rows rows i j h k e =
    let len : length (map entry rows) ≡ length rows = length-map rows entry in
    minor_at_equal (map entry rows) i j (columns_of rows) h (omega arith)
    (get_or-map_default entry rows i [] ∙ ap entry e ∙ sym (get_or-map_default entry rows j []))

minor-is : (rows : List (List ℤ)) → minor rows ≡ minor_at (map entry rows) (columns_of rows)
unfolding minor
minor-is rows = refl

row_at : (rows : List (List ℤ)) (i c : ℕ) → get_or (map entry rows) i nothing c ≡ entry (get_or rows i []) c
row_at rows i c = ap (λ (row : ℕ → ℤ). row c) (get_or-map_default entry rows i [])

pub one_at_identity : OneAtIdentity
one_at_identity rows unit =
    let R : List (ℕ → ℤ) = map entry rows in
    let len : length R ≡ length rows = length-map rows entry in
    let from : (i : ℕ) → 0 + i ≡ i = λ i. omega arith in
    minor-is rows
    ∙ ap (λ n. minor_at R (range_with_len 0 n)) (sym len)
    ∙ minor_at_identity R 0
    (λ i l. let inside : i < length rows = omega arith in row_at rows i (0 + i) ∙ ap (entry (get_or rows i [])) (from i) ∙ (unit i inside).one inside)
    (λ i j l k ne. let inside : i < length rows = omega arith in row_at rows i (0 + j) ∙ ap (entry (get_or rows i [])) (from j) ∙ (unit i inside).zeros j (omega arith) ne)

pub scale_of_identity : ScaleOfIdentity
scale_of_identity rows unit = record { nonzero = λ e. one_apart e; size = ap unsigned_abs (sym (one_at_identity rows unit)) }
  where
    one_apart : pos 1 ≢ pos 0
    one_apart e = omega (arith, sums)

-- ---- Cramer's rule

-- the numbers of a column, over functions
columns_map : (rows : List (List ℤ)) (c : ℕ) → map (λ (row : ℕ → ℤ). row c) (map entry rows) ≡ column_of rows c
columns_map [] c = refl
columns_map (r ∷ rows) c = ap (λ (tail : List ℤ). entry r c ∷ tail) (columns_map rows c)

scaled : (s m p n : ℤ) → n ≡ s *ℤ m +ℤ pos 0 *ℤ p → s *ℤ m ≡ n
scaled s m p n e = omega (arith, sums, zero-mul p)

pub replaced_row : ReplacedRow
replaced_row s row factors rows k comb h =
    let R : List (ℕ → ℤ) = map entry rows in
    let len : length R ≡ length rows = length-map rows entry in
    let cols : List ℕ = columns_of rows in
    let times : ℕ → ℤ = λ c. s *ℤ entry row c +ℤ pos 0 *ℤ nothing c in
    let within : minor_at (set R k times) cols ≡ minor_at (set R k (sum_of_rows factors R)) cols =
    minor_at_within (λ c. c < length rows) R k times (sum_of_rows factors R) cols (in_square rows)
    (λ c l. +ℤ_idr (s *ℤ entry row c) ∙ comb.each c l ∙ ap (dot factors) (sym (columns_map rows c))) in
    ap (λ (n : ℤ). s *ℤ n) (minor-set rows k row)
    ∙ scaled s (minor_at (set R k (entry row)) cols) (minor_at (set R k nothing) cols) (minor_at (set R k times) cols) (minor_at_linear R k s (pos 0) (entry row) nothing cols (omega arith))
    ∙ within
    ∙ minor_at_replaced factors R k cols (omega arith)
    ∙ ap (λ (n : ℤ). entry factors k *ℤ n) (sym (minor-is rows))

same_factor : (s m f d : ℤ) → s ≢ pos 0 → unsigned_abs s ≡ unsigned_abs d → s *ℤ m ≡ f *ℤ d → unsigned_abs f ≡ unsigned_abs m
same_factor s m f d ne size e =
    let sizes : unsigned_abs s * unsigned_abs f ≡ unsigned_abs s * unsigned_abs m =
    ap (λ n. n * unsigned_abs f) size ∙ comm (unsigned_abs d) (unsigned_abs f) ∙ sym (unsigned_abs-mul f d) ∙ ap unsigned_abs (sym e) ∙ unsigned_abs-mul s m in
    cancel_ℕ (unsigned_abs s) (unsigned_abs f) (unsigned_abs m) (abs_positive s ne) sizes
  where
    comm : (a b : ℕ) → a * b ≡ b * a
    comm a b = omega arith

pub factor_is_minor : FactorIsMinor
factor_is_minor s row factors rows k scale comb h =
    same_factor s (minor (set rows k row)) (entry factors k) (minor rows) scale.nonzero scale.size (replaced_row s row factors rows k comb h)

pub scale_after_pivot : ScaleAfterPivot
scale_after_pivot s row pivot rows k scale comb h ne = record { nonzero = ne; size = factor_is_minor s row pivot rows k scale comb h }

-- ---- an exchange of rows

column-set : (rows : List (List ℤ)) (k : ℕ) (row : List ℤ) (c : ℕ) → column_of (set rows k row) c ≡ set (column_of rows c) k (entry row c)
column-set rows k row c = map-set (λ r. entry r c) rows k row

column_at : (rows : List (List ℤ)) (k c : ℕ) → get_or (column_of rows c) k (pos 0) ≡ entry (get_or rows k []) c
column_at rows k c = get_or-map_default (λ (r : List ℤ). entry r c) rows k []

exchange_sums : (t gn all qe pa rb psr rse : ℤ) → t +ℤ gn ≡ all +ℤ qe → gn ≡ pos 0 → all ≡ pa +ℤ rb → pa ≡ psr → rb ≡ neg_ℤ rse → qe ≡ rse → psr ≡ t
exchange_sums t gn all qe pa rb psr rse sum none is_all is_pa is_rb is_qe = omega (arith, sums)

exchange_step : (p s r row entering t g number q all a b : ℤ)
    → t +ℤ g *ℤ number ≡ all +ℤ q *ℤ entering
    → g ≡ p *ℤ r +ℤ neg_ℤ r *ℤ p → all ≡ p *ℤ a +ℤ neg_ℤ r *ℤ b → a ≡ s *ℤ row → b ≡ s *ℤ entering → q ≡ s *ℤ r
    → (p *ℤ s) *ℤ row ≡ t
exchange_step p s r row entering t g number q all a b sum is_g is_all is_a is_b is_q =
    let none : g ≡ pos 0 = omega (arith, sums, is_g, *ℤ_comm p r, neg-mul r p) in
    exchange_sums t (g *ℤ number) all (q *ℤ entering) (p *ℤ a) (neg_ℤ r *ℤ b) ((p *ℤ s) *ℤ row) (r *ℤ (s *ℤ entering)) sum
    (ap (λ (n : ℤ). n *ℤ number) none ∙ zero-mul number)
    is_all
    (ap (λ (n : ℤ). p *ℤ n) is_a ∙ sym (mul_assoc p s row))
    (ap (λ (n : ℤ). neg_ℤ r *ℤ n) is_b ∙ neg-mul r (s *ℤ entering))
    (ap (λ (n : ℤ). n *ℤ entering) (is_q ∙ *ℤ_comm s r) ∙ mul_assoc r s entering)

difference : (p r q n : ℤ) → p *ℤ r -ℤ q *ℤ n ≡ p *ℤ r +ℤ neg_ℤ q *ℤ n
difference p r q n = omega (arith, sums, neg-mul q n)

exchange : (s : ℤ) (entering pivot row factors new : List ℤ) (rows : List (List ℤ)) (k : ℕ)
    → IsCombination s entering pivot rows → IsCombination s row factors rows → k < length rows → length new ≡ length rows
    → entry new k ≡ s *ℤ entry factors k
    → ((i : ℕ) → i < length rows → i ≢ k → entry new i ≡ entry pivot k *ℤ entry factors i -ℤ entry factors k *ℤ entry pivot i)
    → IsCombination (entry pivot k *ℤ s) row new (set rows k entering)
exchange s entering pivot row factors new rows k of_entering of_row h len kept others =
    let p : ℤ = entry pivot k in
    let r : ℤ = entry factors k in
    let same_len : length (set rows k entering) ≡ length rows = length-set rows k entering in
    let g : ℕ → ℤ = λ i. p *ℤ entry factors i +ℤ neg_ℤ r *ℤ entry pivot i in
    record {
      len = len ∙ sym same_len;
      each = λ c l.
          let numbers : List ℤ = column_of rows c in
          let size : length numbers ≡ length rows = length-map rows (λ (row : List ℤ). entry row c) in
          let inside : c < length rows = omega arith in
          let sum : total (entry new) (set numbers k (entry entering c)) +ℤ g k *ℤ get_or numbers k (pos 0) ≡ total g numbers +ℤ entry new k *ℤ entry entering c =
          total_exchange (entry new) g numbers k (entry entering c) (omega arith) (λ i il ne. let il' : i < length rows = omega arith in others i il' ne ∙ difference p (entry factors i) r (entry pivot i)) in
          exchange_step p s r (entry row c) (entry entering c) (total (entry new) (set numbers k (entry entering c))) (g k) (get_or numbers k (pos 0)) (entry new k) (total g numbers) (total (entry factors) numbers) (total (entry pivot) numbers)
          sum refl (total_linear p (neg_ℤ r) (entry factors) (entry pivot) numbers)
          (sym (dot_is_total factors numbers) ∙ sym (of_row.each c inside))
          (sym (dot_is_total pivot numbers) ∙ sym (of_entering.each c inside))
          kept
          ∙ sym (dot_is_total new (set numbers k (entry entering c)))
          ∙ ap (dot new) (sym (column-set rows k entering c));
    }

-- ---- the exact division

quotient_of : (p s d e m q : ℤ) → s ≢ pos 0 → p ≢ pos 0 → unsigned_abs s ≡ unsigned_abs d → s *ℤ e ≡ p *ℤ d → (p *ℤ s) *ℤ m ≡ q *ℤ e
    → (quotient : ℤ) × (quotient *ℤ s ≡ q) × (unsigned_abs quotient ≡ unsigned_abs m)
quotient_of p s d e m q nonzero ne size minors replaced =
    elim (same_size s d size) [
      | inl same ↦
          let is_e : e ≡ p = cancel s e p nonzero (minors ∙ ap (λ (n : ℤ). p *ℤ n) (sym same) ∙ *ℤ_comm p s) in
          let scaled : p *ℤ (s *ℤ m) ≡ p *ℤ q = sym (mul_assoc p s m) ∙ replaced ∙ ap (λ (n : ℤ). q *ℤ n) is_e ∙ *ℤ_comm q p in
          (m, *ℤ_comm m s ∙ cancel p (s *ℤ m) q ne scaled, refl)
      | inr turned ↦
          let is_d : d ≡ neg_ℤ s = omega (arith, sums) in
          let is_e : e ≡ neg_ℤ p = cancel s e (neg_ℤ p) nonzero (minors ∙ ap (λ (n : ℤ). p *ℤ n) is_d ∙ mul-neg p s ∙ ap neg_ℤ (*ℤ_comm p s) ∙ sym (mul-neg s p)) in
          let scaled : p *ℤ (s *ℤ m) ≡ p *ℤ neg_ℤ q = sym (mul_assoc p s m) ∙ replaced ∙ ap (λ (n : ℤ). q *ℤ n) is_e ∙ mul-neg q p ∙ ap neg_ℤ (*ℤ_comm q p) ∙ sym (mul-neg p q) in
          let is_q : s *ℤ m ≡ neg_ℤ q = cancel p (s *ℤ m) (neg_ℤ q) ne scaled in
          (neg_ℤ m, neg-mul m s ∙ ap neg_ℤ (*ℤ_comm m s ∙ is_q) ∙ twice q, unsigned_abs-neg m)
    ]
  where
    twice : (n : ℤ) → neg_ℤ (neg_ℤ n) ≡ n
    twice n = omega (arith, sums)

pub pivot_divides : PivotDivides
pivot_divides s entering pivot row factors rows k other scale of_entering of_row h l ne nonzero =
    let p : ℤ = entry pivot k in
    let r : ℤ = entry factors k in
    let n : ℕ = length rows in
    let g : ℕ → ℤ = λ i. p *ℤ entry factors i -ℤ r *ℤ entry pivot i in
    let plain : List ℤ = map g (range_with_len 0 n) in
    let plain_len : length plain ≡ n = length-map-range_with_len g 0 n in
    let new : List ℤ = set plain k (s *ℤ r) in
    let at : (i : ℕ) → i < n → i ≢ k → entry new i ≡ g i = λ i il apart. get_or-set_other plain k i (s *ℤ r) (pos 0) apart ∙ get_or-map-range_with_len g 0 n i i (pos 0) il (omega arith) in
    let square : List (List ℤ) = set rows k entering in
    let square_len : length square ≡ n = length-set rows k entering in
    let comb : IsCombination (p *ℤ s) row new square =
    exchange s entering pivot row factors new rows k of_entering of_row h (length-set plain k (s *ℤ r) ∙ plain_len) (get_or-set_same plain k (s *ℤ r) (pos 0) (omega arith)) at in
    quotient_of p s (minor rows) (minor square) (minor (set square other row)) (g other) scale.nonzero nonzero scale.size
    (replaced_row s entering pivot rows k of_entering h)
    (replaced_row (p *ℤ s) row new square other comb (omega arith) ∙ ap (λ (x : ℤ). x *ℤ minor square) (at other l ne))

pub pivot_keeps_combination : PivotKeepsCombination
pivot_keeps_combination s entering pivot row factors new rows k nonzero of_entering of_row h pivoted =
    let p : ℤ = entry pivot k in
    let multiple : List ℤ = map (λ x. x *ℤ s) new in
    let new_len : length new ≡ length rows = pivoted.len ∙ of_row.len in
    let factors_len : length factors ≡ length rows = of_row.len in
    let at : (i : ℕ) → i < length rows → entry multiple i ≡ entry new i *ℤ s = λ i il. get_or-map (λ x. x *ℤ s) new i (pos 0) (pos 0) (omega arith) in
    let comb : IsCombination (p *ℤ s) row multiple (set rows k entering) =
    exchange s entering pivot row factors multiple rows k of_entering of_row h (length-map new (λ x. x *ℤ s) ∙ new_len)
    (at k h ∙ ap (λ (x : ℤ). x *ℤ s) pivoted.kept ∙ *ℤ_comm (entry factors k) s)
    (λ i il apart. at i il ∙ pivoted.divided i (omega arith) apart) in
    let same_len : length (set rows k entering) ≡ length rows = length-set rows k entering in
    record {
      len = new_len ∙ sym same_len;
      each = λ c l.
          let numbers : List ℤ = column_of (set rows k entering) c in
          let size : length numbers ≡ length (set rows k entering) = length-map (set rows k entering) (λ (row : List ℤ). entry row c) in
          let sum : total (entry multiple) numbers ≡ s *ℤ total (entry new) numbers +ℤ pos 0 *ℤ total (entry new) numbers =
          total_same (entry multiple) (λ i. s *ℤ entry new i +ℤ pos 0 *ℤ entry new i) numbers (λ i il. at i (omega arith) ∙ widened s (entry new i)) ∙ total_linear s (pos 0) (entry new) (entry new) numbers in
          divided p s (entry row c) (dot multiple numbers) (total (entry multiple) numbers) (total (entry new) numbers) nonzero (comb.each c l) (dot_is_total multiple numbers) sum
          ∙ sym (dot_is_total new numbers);
    }
  where
    widened : (s n : ℤ) → n *ℤ s ≡ s *ℤ n +ℤ pos 0 *ℤ n
    widened s n = omega (arith, sums, *ℤ_comm n s, zero-mul n)

    divided : (p s row d m t : ℤ) → s ≢ pos 0 → (p *ℤ s) *ℤ row ≡ d → d ≡ m → m ≡ s *ℤ t +ℤ pos 0 *ℤ t → p *ℤ row ≡ t
    divided p s row d m t nonzero e same sum = cancel s (p *ℤ row) t nonzero (sym (ap (λ (n : ℤ). n *ℤ row) (*ℤ_comm p s) ∙ mul_assoc s p row) ∙ e ∙ same ∙ sum ∙ omega (arith, sums, zero-mul t))

-- ---- the square's own rows, sums and signs

one_negative : (n : ℤ) → pos 0 -ℤ n ≡ negsuc 0 *ℤ n +ℤ pos 0 *ℤ n
one_negative n = omega (arith, sums, neg-mul (pos 1) n, one-mul n, zero-mul n)

leaving_step : (p s entering t g number q all b : ℤ)
    → t +ℤ g *ℤ number ≡ all +ℤ q *ℤ entering
    → g ≡ negsuc 0 *ℤ p +ℤ pos 0 *ℤ p → all ≡ negsuc 0 *ℤ b +ℤ pos 0 *ℤ b → b ≡ s *ℤ entering → q ≡ s
    → p *ℤ number ≡ t
leaving_step p s entering t g number q all b sum is_g is_all is_b is_q =
    let left : g *ℤ number ≡ neg_ℤ (p *ℤ number) = ap (λ (n : ℤ). n *ℤ number) (is_g ∙ sym (one_negative p) ∙ turned p) ∙ neg-mul p number in
    let right : q *ℤ entering ≡ s *ℤ entering = ap (λ (n : ℤ). n *ℤ entering) is_q in
    let whole : all ≡ neg_ℤ b = is_all ∙ sym (one_negative b) ∙ turned b in
    sums_of t (g *ℤ number) all (q *ℤ entering) (p *ℤ number) b (s *ℤ entering) sum left right whole is_b
  where
    turned : (n : ℤ) → pos 0 -ℤ n ≡ neg_ℤ n
    turned n = omega (arith, sums)

    sums_of : (t gn all qe pn b se : ℤ) → t +ℤ gn ≡ all +ℤ qe → gn ≡ neg_ℤ pn → qe ≡ se → all ≡ neg_ℤ b → b ≡ se → pn ≡ t
    sums_of t gn all qe pn b se sum is_gn is_qe is_all is_b = omega (arith, sums)

pub leaving_row_is_combination : LeavingRowIsCombination
leaving_row_is_combination s entering pivot new rows k of_entering h leaving =
    let p : ℤ = entry pivot k in
    let g : ℕ → ℤ = λ i. negsuc 0 *ℤ entry pivot i +ℤ pos 0 *ℤ entry pivot i in
    let pivot_len : length pivot ≡ length rows = of_entering.len in
    let same_len : length (set rows k entering) ≡ length rows = length-set rows k entering in
    record {
      len = leaving.len ∙ pivot_len ∙ sym same_len;
      each = λ c l.
          let numbers : List ℤ = column_of rows c in
          let size : length numbers ≡ length rows = length-map rows (λ (row : List ℤ). entry row c) in
          let sum : total (entry new) (set numbers k (entry entering c)) +ℤ g k *ℤ get_or numbers k (pos 0) ≡ total g numbers +ℤ entry new k *ℤ entry entering c =
          total_exchange (entry new) g numbers k (entry entering c) (omega arith) (λ i il apart. leaving.negated i (omega arith) apart ∙ one_negative (entry pivot i)) in
          ap (λ (n : ℤ). p *ℤ n) (sym (column_at rows k c))
          ∙ leaving_step p s (entry entering c) (total (entry new) (set numbers k (entry entering c))) (g k) (get_or numbers k (pos 0)) (entry new k) (total g numbers) (total (entry pivot) numbers)
          sum refl (total_linear (negsuc 0) (pos 0) (entry pivot) (entry pivot) numbers)
          (sym (dot_is_total pivot numbers) ∙ sym (of_entering.each c (omega arith)))
          leaving.kept
          ∙ sym (dot_is_total new (set numbers k (entry entering c)))
          ∙ ap (dot new) (sym (column-set rows k entering c));
    }

pub square_row_is_combination : SquareRowIsCombination
square_row_is_combination s factors rows k h len kept zeros = record {
  len = len;
  each = λ c l.
      let numbers : List ℤ = column_of rows c in
      let size : length numbers ≡ length rows = length-map rows (λ (row : List ℤ). entry row c) in
      ap (λ (n : ℤ). n *ℤ entry (get_or rows k []) c) (sym kept)
      ∙ ap (λ (n : ℤ). entry factors k *ℤ n) (sym (column_at rows k c))
      ∙ sym (total_single (entry factors) numbers k (omega arith) (λ i il apart. zeros i (omega arith) apart))
      ∙ sym (dot_is_total factors numbers);
}

pub sum_of_combinations : SumOfCombinations
sum_of_combinations s x y a b row of_a of_b factors rows comb_a comb_b row_is len factors_are = record {
  len = len;
  each = λ c l.
      let numbers : List ℤ = column_of rows c in
      let size : length numbers ≡ length rows = length-map rows (λ (row : List ℤ). entry row c) in
      let sum : total (entry factors) numbers ≡ x *ℤ total (entry of_a) numbers +ℤ y *ℤ total (entry of_b) numbers =
      total_same (entry factors) (λ i. x *ℤ entry of_a i +ℤ y *ℤ entry of_b i) numbers (λ i il. factors_are i (omega arith)) ∙ total_linear x y (entry of_a) (entry of_b) numbers in
      joined s x y (entry a c) (entry b c) (entry row c) (total (entry of_a) numbers) (total (entry of_b) numbers) (total (entry factors) numbers)
      (row_is c l) sum (comb_a.each c l ∙ dot_is_total of_a numbers) (comb_b.each c l ∙ dot_is_total of_b numbers)
      ∙ sym (dot_is_total factors numbers);
}
  where
    joined : (s x y a b n ta tb t : ℤ) → n ≡ x *ℤ a +ℤ y *ℤ b → t ≡ x *ℤ ta +ℤ y *ℤ tb → s *ℤ a ≡ ta → s *ℤ b ≡ tb → s *ℤ n ≡ t
    joined s x y a b n ta tb t is_n is_t is_a is_b =
        ap (λ (m : ℤ). s *ℤ m) is_n ∙ mul-add s (x *ℤ a) (y *ℤ b)
        ∙ ap (λ (m : ℤ). m +ℤ s *ℤ (y *ℤ b)) (mul_left_comm s x a ∙ ap (λ (m : ℤ). x *ℤ m) is_a)
        ∙ ap (λ (m : ℤ). x *ℤ ta +ℤ m) (mul_left_comm s y b ∙ ap (λ (m : ℤ). y *ℤ m) is_b)
        ∙ sym is_t

-- the two sums of a combination's values change places
total_of_columns : (factors : List ℤ) (rows : List (List ℤ)) (point : List ℤ) → total (λ c. dot factors (column_of rows c)) point ≡ dot factors (map (λ r. dot r point) rows)
total_of_columns [] rows point = total-zero point
total_of_columns (x ∷ factors) [] point = total-zero point
total_of_columns (x ∷ factors) (r ∷ rows) point =
    let rest : ℕ → ℤ = λ c. dot factors (column_of rows c) in
    total_same (λ c. x *ℤ entry r c +ℤ rest c) (λ c. x *ℤ entry r c +ℤ pos 1 *ℤ rest c) point (λ c l. ap (λ (n : ℤ). x *ℤ entry r c +ℤ n) (sym (one-mul (rest c))))
    ∙ total_linear x (pos 1) (entry r) rest point
    ∙ ap (λ (n : ℤ). x *ℤ n +ℤ pos 1 *ℤ total rest point) (sym (dot_is_total r point))
    ∙ ap (λ (n : ℤ). x *ℤ dot r point +ℤ n) (one-mul (total rest point) ∙ total_of_columns factors rows point)

pub combination_at_point : CombinationAtPoint
combination_at_point s row factors point rows comb h =
    ap (λ (n : ℤ). s *ℤ n) (dot_is_total row point)
    ∙ widened s (total (entry row) point)
    ∙ sym (total_linear s (pos 0) (entry row) (entry row) point)
    ∙ total_same (λ c. s *ℤ entry row c +ℤ pos 0 *ℤ entry row c) (λ c. dot factors (column_of rows c)) point
    (λ c l. sym (widened s (entry row c)) ∙ comb.each c (omega arith))
    ∙ total_of_columns factors rows point
  where
    widened : (s n : ℤ) → s *ℤ n ≡ s *ℤ n +ℤ pos 0 *ℤ n
    widened s n = omega (arith, sums, zero-mul n)

pub negated_combination : NegatedCombination
negated_combination s row factors rows comb = record {
  len = length-map factors neg_ℤ ∙ comb.len;
  each = λ c l. neg-mul s (entry row c) ∙ ap neg_ℤ (comb.each c l) ∙ sym (dot-neg_left factors (column_of rows c));
}

pub negated_scale : NegatedScale
negated_scale s rows scale = record { nonzero = λ e. scale.nonzero (still s e); size = unsigned_abs-neg s ∙ scale.size }
  where
    still : (s : ℤ) → neg_ℤ s ≡ pos 0 → s ≡ pos 0
    still s e = omega (arith, sums)

-- ---- the bound

at_last : (order most c : ℕ) → c + 1 ≡ order → cond (eqb (c + 1) order) most 1 ≡ most
at_last order most c e = grind (arith, nat_tests)

before_last : (order most c : ℕ) → c + 1 ≢ order → cond (eqb (c + 1) order) most 1 ≡ 1
before_last order most c e = grind (arith, nat_tests)

small_entry : (order most c : ℕ) (row : List ℤ) → HasSmallEntries order most row → c < order → unsigned_abs (entry row c) ≤ last_most order most c
small_entry order most c row small h =
    elim (cases_eq (c + 1) order) [
      | inl e ↦ subst (λ n. unsigned_abs (entry row c) ≤ n) (sym (at_last order most c e)) (small.last c e)
      | inr ne ↦ subst (λ n. unsigned_abs (entry row c) ≤ n) (sym (before_last order most c ne)) (small.plain c (omega arith))
    ]

pub minor_is_bounded : MinorIsBounded
minor_is_bounded rows most h small =
    let R : List (ℕ → ℤ) = map entry rows in
    let n : ℕ = length rows in
    let len : length R ≡ n = length-map rows entry in
    let cols : List ℕ = columns_of rows in
    let cols_len : length cols ≡ n = length-range_with_len 0 n in
    let bound : unsigned_abs (minor_at R cols) ≤ factorial (length R) * product_of (last_most n most) cols =
    minor_at_bound (λ c. c < n) (last_most n most) R cols
    (λ i c l inside. subst (λ (z : ℤ). unsigned_abs z ≤ last_most n most c) (sym (row_at rows i c)) (small_entry n most c (get_or rows i []) (small i [] (omega arith)) inside))
    (in_square rows) (cols_len ∙ sym len) in
    let product : product_of (last_most n most) cols ≤ most = product_of_range n most 0 n h (omega arith) in
    within (unsigned_abs (minor rows)) (factorial (length R)) (factorial n) (product_of (last_most n most) cols) most
    (subst (λ (z : ℤ). unsigned_abs z ≤ factorial (length R) * product_of (last_most n most) cols) (sym (minor-is rows)) bound) (ap factorial len) product
  where
    within : (z f g p m : ℕ) → z ≤ f * p → f ≡ g → p ≤ m → z ≤ m * g
    within z f g p m h e k = let b : g * p ≤ g * m = mul-le-mul (omega arith) k in let c : z ≤ g * p = subst (λ x. z ≤ x * p) e h in omega arith

pub factor_is_bounded : FactorIsBounded
factor_is_bounded s row factors rows k most scale comb h small row_small =
    elim (cases_lt k (length rows)) [
      | inl inside ↦ subst (λ n. n ≤ most * factorial (length rows)) (sym (factor_is_minor s row factors rows k scale comb inside)) (replaced inside)
      | inr past ↦
          let len : length factors ≡ length rows = comb.len in
          let none : entry factors k ≡ pos 0 = get_or_past factors k (pos 0) (omega arith) in
          subst (λ (z : ℤ). unsigned_abs z ≤ most * factorial (length rows)) (sym none) (omega arith)
    ]
  where
    order : length (set rows k row) ≡ length rows
    order = length-set rows k row

    each : (i : ℕ) (d : List ℤ) → i < length (set rows k row) → HasSmallEntries (length rows) most (get_or (set rows k row) i d)
    each i d l =
        elim (cases_eq i k) [
          | inl e ↦ subst (HasSmallEntries (length rows) most) (sym (ap (λ j. get_or (set rows k row) j d) e ∙ get_or-set_same rows k row d (omega (arith, order)))) row_small
          | inr ne ↦ subst (HasSmallEntries (length rows) most) (sym (get_or-set_other rows k i row d ne)) (small i d (omega (arith, order)))
        ]

    replaced : k < length rows → unsigned_abs (minor (set rows k row)) ≤ most * factorial (length rows)
    replaced inside =
        subst (λ n. unsigned_abs (minor (set rows k row)) ≤ most * factorial n) order
        (minor_is_bounded (set rows k row) most h (λ i d l. subst (λ n. HasSmallEntries n most (get_or (set rows k row) i d)) (sym order) (each i d l)))

pub scale_is_bounded : ScaleIsBounded
scale_is_bounded s rows most scale h small = subst (λ n. n ≤ most * factorial (length rows)) (sym scale.size) (minor_is_bounded rows most h small)

pub bound_is_small : BoundIsSmall
bound_is_small = (λ order h. at order h, below_power)
  where
    at : (order : ℕ) → order ≤ 25 → 25 * factorial order ≤ 25 * factorial 25
    at order h =
        let e : order + (25 - order) ≡ 25 = omega arith in
        let grown : factorial order ≤ factorial 25 = subst (λ n. factorial order ≤ factorial n) e (factorial_mono order (25 - order)) in
        omega arith
