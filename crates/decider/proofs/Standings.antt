-- For which answers rows stand.
use Rattle.std.proofs.Common.{◌≡◌, ℕ, zero, suc, ◌+◌, ◌-◌, ◌*◌, ◌<◌, ◌≤◌, true, false, List, [], ◌∷◌, ◌++◌, length, get_or, take, drop, Some, ◌⊎◌, inl, inr, refl, sym, ap, subst, ◌∙◌, arith, append_assoc}
use Rattle.std.specs.Prelude.{nat_lt, slice_get}
use Rattle.std.proofs.lemmas.Bool.{cases_Bool, ltb-true, ltb-false}
use Rattle.std.proofs.lemmas.List.{ext_get_or, get_or-append_right, length-append, append-nil}
use Rattle.std.proofs.lemmas.Grind.{flat_map-append}
use Rattle.criteria_model.specs.declared.pairs.Pair.{Pair}
use Rattle.criteria_model.specs.declared.pairs.Answer.{Answer}
use Rattle.criteria_model.specs.declared.pairs.Side.{Side}
use Rattle.criteria_model.specs.declared.pairs.Side.TheVariants.{Left, Right, Equal}
use Rattle.fraction_free.specs.declared.loaded.LoadedRow.{LoadedRow}
use Rattle.fraction_free.specs.Dictionary.{DictionaryView, IsDictionary, loaded_at, no_row}
use Rattle.fraction_free.specs.Changes.{empty_dictionary, next_count}
use Rattle.criteria_model.specs.Worth.{increments}
use Rattle.decider.specs.Standing.{rows_of, rows_of_answers, BeginsAt, StandsFor, HasRoomForRows, KeepsRoom, RisesAtMost, BringsUp}

pub begins_append : (l xs ys : List LoadedRow) (from : ℕ) → BeginsAt l xs from → BeginsAt l ys (from + length xs) → BeginsAt l (xs ++ ys) from
begins_append l [] ys from h k = let e : from + 0 ≡ from = omega arith in subst (BeginsAt l ys) e k
begins_append l (x ∷ xs) ys from h k =
    let e : from + suc (length xs) ≡ from + 1 + length xs = omega arith in
    (h.0, begins_append l xs ys (from + 1) h.1 (subst (BeginsAt l ys) e k))

pub begins_later : (l xs ys : List LoadedRow) (from : ℕ) → BeginsAt l (xs ++ ys) from → BeginsAt l ys (from + length xs)
begins_later l [] ys from h = let e : from ≡ from + 0 = omega arith in subst (BeginsAt l ys) e h
begins_later l (x ∷ xs) ys from h =
    let e : from + 1 + length xs ≡ from + suc (length xs) = omega arith in
    subst (BeginsAt l ys) e (begins_later l xs ys (from + 1) h.1)

pub begins_first : (l xs ys : List LoadedRow) (from : ℕ) → BeginsAt l (xs ++ ys) from → BeginsAt l xs from
begins_first l [] ys from h = tt
begins_first l (x ∷ xs) ys from h = (h.0, begins_first l xs ys (from + 1) h.1)

pub begins_within : (l xs : List LoadedRow) (from : ℕ) → from ≤ length l → BeginsAt l xs from → from + length xs ≤ length l
begins_within l [] from le h = omega arith
begins_within l (x ∷ xs) from le h = let w = h.0.within in let r = begins_within l xs (from + 1) (omega arith) h.1 in omega arith

pub begins_at : (l xs : List LoadedRow) (from k : ℕ) → BeginsAt l xs from → k < length xs → loaded_at l (from + k) ≡ get_or xs k no_row
begins_at l [] from k h lt = absurd (omega arith)
begins_at l (x ∷ xs) from zero h lt = let e : from + 0 ≡ from = omega arith in ap (loaded_at l) e ∙ h.0.is
begins_at l (x ∷ xs) from (suc k) h lt =
    let e : from + suc k ≡ from + 1 + k = omega arith in
    ap (loaded_at l) e ∙ begins_at l xs (from + 1) k h.1 (omega arith)

pub begins_all : (l xs : List LoadedRow) → BeginsAt l xs 0 → length xs ≡ length l → l ≡ xs
begins_all l xs h e =
    ext_get_or no_row l xs (sym e) (λ k lt. let z : 0 + k ≡ k = omega arith in sym (ap (loaded_at l) z) ∙ begins_at l xs 0 k h (omega arith))

-- a list begins with itself
begins_part : (xs ys : List LoadedRow) → BeginsAt (xs ++ ys) ys (length xs)
begins_part xs [] = tt
begins_part xs (y ∷ ys) =
    (record { within = omega (arith, length-append xs (y ∷ ys)); is = at_seam }, subst2 (append_assoc xs (y ∷ []) ys) (length-append xs (y ∷ [])) (begins_part (xs ++ y ∷ []) ys))
  where
    zero_place : length xs - length xs ≡ 0
    zero_place = omega arith

    at_seam : loaded_at (xs ++ y ∷ ys) (length xs) ≡ y
    at_seam = get_or-append_right xs (y ∷ ys) (length xs) (length xs) no_row refl (omega arith) ∙ ap (λ (n : ℕ). get_or (y ∷ ys) n no_row) zero_place

    subst2 : {l m : List LoadedRow} → l ≡ m → {i j : ℕ} → i ≡ j → BeginsAt l ys i → BeginsAt m ys j
    subst2 {l} {m} e {i} {j} f h = subst (λ (n : ℕ). BeginsAt m ys n) f (subst (λ (k : List LoadedRow). BeginsAt k ys i) e h)

pub begins_self : (xs : List LoadedRow) → BeginsAt xs xs 0
begins_self xs = begins_part [] xs

-- ---- rows of answers

one_more : (xs : List Answer) (i : ℕ) (x : Answer) → i < length xs → get_or xs i x ≡ x → take (suc i) xs ≡ take i xs ++ x ∷ []
one_more [] i x lt e = absurd (omega arith)
one_more (y ∷ xs) zero x lt e = ap (λ (z : Answer). z ∷ []) e
one_more (y ∷ xs) (suc i) x lt e = ap (λ (l : List Answer). y ∷ l) (one_more xs i x (omega arith) e)

pub rows_more : (levels : List ℕ) (answers : List Answer) (held : ℕ) (answer : Answer) → held < length answers → get_or answers held answer ≡ answer
    → rows_of_answers levels (take (held + 1) answers) ≡ rows_of_answers levels (take held answers) ++ rows_of levels answer.pair answer.side
rows_more levels answers held answer lt e =
    let s : held + 1 ≡ suc held = omega arith in
    ap (λ (n : ℕ). rows_of_answers levels (take n answers)) s
    ∙ ap (rows_of_answers levels) (one_more answers held answer lt e)
    ∙ flat_map-append (λ (a : Answer). rows_of levels a.pair a.side) (take held answers) (answer ∷ [])
    ∙ ap (λ (l : List LoadedRow). rows_of_answers levels (take held answers) ++ l) (append-nil (rows_of levels answer.pair answer.side))

take_parts : (xs : List Answer) (i j : ℕ) → i ≤ j → take j xs ≡ take i xs ++ drop i (take j xs)
take_parts xs zero j le = refl
take_parts [] (suc i) zero le = absurd (omega arith)
take_parts [] (suc i) (suc j) le = refl
take_parts (x ∷ xs) (suc i) zero le = absurd (omega arith)
take_parts (x ∷ xs) (suc i) (suc j) le = ap (λ (l : List Answer). x ∷ l) (take_parts xs i j (omega arith))

-- the rows of more answers begin with those of fewer
pub rows_part : (levels : List ℕ) (answers : List Answer) (i j : ℕ) → i ≤ j
    → rows_of_answers levels (take j answers) ≡ rows_of_answers levels (take i answers) ++ rows_of_answers levels (drop i (take j answers))
rows_part levels answers i j le =
    ap (rows_of_answers levels) (take_parts answers i j le)
    ∙ flat_map-append (λ (a : Answer). rows_of levels a.pair a.side) (take i answers) (drop i (take j answers))

pub rows_len-le : (levels : List ℕ) (answers : List Answer) (i j : ℕ) → i ≤ j → length (rows_of_answers levels (take i answers)) ≤ length (rows_of_answers levels (take j answers))
rows_len-le levels answers i j le =
    omega (arith, ap length (rows_part levels answers i j le), length-append (rows_of_answers levels (take i answers)) (rows_of_answers levels (drop i (take j answers))))

-- the rows so far are those of the first answers
pub record HeldSoFar (levels : List ℕ) (answers : List Answer) (loaded : List LoadedRow) (row held : ℕ) : Type 0 where
  pub most : held ≤ length answers
  pub row_is : row ≡ length (rows_of_answers levels (take held answers))
  pub begins : BeginsAt loaded (rows_of_answers levels (take held answers)) 0
  pub within : row ≤ length loaded

pub held_none : (levels : List ℕ) (answers : List Answer) (loaded : List LoadedRow) → HeldSoFar levels answers loaded 0 0
held_none levels answers loaded = record { most = omega arith; row_is = refl; begins = tt; within = omega arith }

pub held_more : (levels : List ℕ) (answers : List Answer) (loaded : List LoadedRow) (row held count : ℕ) (answer : Answer) → held < length answers → slice_get answers held ≡ Some answer
    → get_or answers held answer ≡ answer → count ≡ length (rows_of levels answer.pair answer.side) → BeginsAt loaded (rows_of levels answer.pair answer.side) row
    → HeldSoFar levels answers loaded row held → HeldSoFar levels answers loaded (row + count) (held + 1)
held_more levels answers loaded row held count answer lt g e ec b so =
    let more = rows_more levels answers held answer lt e in
    let z : row ≡ 0 + length (rows_of_answers levels (take held answers)) = so.row_is ∙ omega arith in
    let both : BeginsAt loaded (rows_of_answers levels (take held answers) ++ rows_of levels answer.pair answer.side) 0 =
    begins_append loaded (rows_of_answers levels (take held answers)) (rows_of levels answer.pair answer.side) 0 so.begins (subst (BeginsAt loaded (rows_of levels answer.pair answer.side)) z b) in
    record {
      most = omega arith;
      row_is = omega (arith, so.row_is, ec, ap length more, length-append (rows_of_answers levels (take held answers)) (rows_of levels answer.pair answer.side));
      begins = subst (λ (l : List LoadedRow). BeginsAt loaded l 0) (sym more) both;
      within = let w = begins_within loaded (rows_of levels answer.pair answer.side) row so.within b in omega (arith, ec);
    }

-- it stands for no other number of answers
pub none_fewer : (levels : List ℕ) (answers : List Answer) (d : DictionaryView) (row held : ℕ) → row < length d.loaded → HeldSoFar levels answers d.loaded row held
    → (k : ℕ) → k ≤ held → StandsFor levels (take k answers) d → ⊥
none_fewer levels answers d row held lt so k le stands =
    let len : length d.loaded ≡ length (rows_of_answers levels (take k answers)) = ap length stands.loaded in
    omega (arith, len, so.row_is, rows_len-le levels answers k held le)

pub none_other : (levels : List ℕ) (answers : List Answer) (d : DictionaryView) (row held : ℕ) (answer : Answer) → held < length answers → get_or answers held answer ≡ answer
    → row < length d.loaded → HeldSoFar levels answers d.loaded row held
    → (BeginsAt d.loaded (rows_of levels answer.pair answer.side) row → ⊥)
    → (k : ℕ) → k ≤ length answers → StandsFor levels (take k answers) d → ⊥
none_other levels answers d row held answer within e lt so differs k le stands = from (cases_Bool (nat_lt held k))
  where
    from : (nat_lt held k ≡ true) ⊎ (nat_lt held k ≡ false) → ⊥
    from (inr f) = none_fewer levels answers d row held lt so k (ltb-false held k f) stands
    from (inl t) =
        let more : held + 1 ≤ k = let h = ltb-true held k t in omega arith in
        let rest : List LoadedRow = rows_of_answers levels (drop (held + 1) (take k answers)) in
        let whole : d.loaded ≡ (rows_of_answers levels (take held answers) ++ rows_of levels answer.pair answer.side) ++ rows_of_answers levels (drop (held + 1) (take k answers)) =
        stands.loaded ∙ rows_part levels answers (held + 1) k more
        ∙ ap (λ (l : List LoadedRow). l ++ rows_of_answers levels (drop (held + 1) (take k answers))) (rows_more levels answers held answer within e) in
        let z : 0 + length (rows_of_answers levels (take held answers)) ≡ row = omega arith ∙ sym so.row_is in
        differs (subst (BeginsAt d.loaded (rows_of levels answer.pair answer.side)) z
        (begins_later d.loaded (rows_of_answers levels (take held answers)) (rows_of levels answer.pair answer.side) 0
        (begins_first d.loaded (rows_of_answers levels (take held answers) ++ rows_of levels answer.pair answer.side) (rows_of_answers levels (drop (held + 1) (take k answers))) 0
        (subst (λ (l : List LoadedRow). BeginsAt d.loaded l 0) whole (begins_self d.loaded)))))

-- ---- how many rows

pub rows_most : (levels : List ℕ) (pair : Pair) (side : Side) → length (rows_of levels pair side) ≤ 2
rows_most levels pair Left = omega arith
rows_most levels pair Right = omega arith
rows_most levels pair Equal = omega arith

rows_some : (levels : List ℕ) (pair : Pair) (side : Side) → 1 ≤ length (rows_of levels pair side)
rows_some levels pair Left = omega arith
rows_some levels pair Right = omega arith
rows_some levels pair Equal = omega arith

pub rows_len-most : (levels : List ℕ) (answers : List Answer) (i : ℕ) → length (rows_of_answers levels (take i answers)) ≤ 2 * i
rows_len-most levels answers zero = omega arith
rows_len-most levels [] (suc i) = omega arith
rows_len-most levels (x ∷ answers) (suc i) =
    let rest = rows_len-most levels answers i in
    let here = rows_most levels x.pair x.side in
    omega (arith, length-append (rows_of levels x.pair x.side) (rows_of_answers levels (take i answers)), rest, here)

take_whole : (answers : List Answer) → take (length answers) answers ≡ answers
take_whole [] = refl
take_whole (x ∷ answers) = ap (λ (l : List Answer). x ∷ l) (take_whole answers)

pub rows_len-whole : (levels : List ℕ) (answers : List Answer) → length (rows_of_answers levels answers) ≤ 2 * length answers
rows_len-whole levels answers = subst (λ (l : List Answer). length (rows_of_answers levels l) ≤ 2 * length answers) (take_whole answers) (rows_len-most levels answers (length answers))

pub rows_len-lt : (levels : List ℕ) (answers : List Answer) (i j : ℕ) → i < j → j ≤ length answers
    → length (rows_of_answers levels (take i answers)) < length (rows_of_answers levels (take j answers))
rows_len-lt levels answers i zero lt le = absurd (omega arith)
rows_len-lt levels [] i (suc j) lt le = absurd (omega arith)
rows_len-lt levels (x ∷ answers) zero (suc j) lt le =
    let here = rows_some levels x.pair x.side in
    omega (arith, length-append (rows_of levels x.pair x.side) (rows_of_answers levels (take j answers)), here)
rows_len-lt levels (x ∷ answers) (suc i) (suc j) lt le =
    let rest = rows_len-lt levels answers i j (omega arith) (omega arith) in
    omega (
      arith,
      length-append (rows_of levels x.pair x.side) (rows_of_answers levels (take i answers)),
      length-append (rows_of levels x.pair x.side) (rows_of_answers levels (take j answers)),
      rest,
    )

-- a dictionary stands for one number of answers at most
pub one_standing : (levels : List ℕ) (answers : List Answer) (d : DictionaryView) (i j : ℕ) → i ≤ length answers → j ≤ length answers → StandsFor levels (take i answers) d
    → StandsFor levels (take j answers) d → i ≡ j
one_standing levels answers d i j li lj si sj = from (cases_Bool (nat_lt i j)) (cases_Bool (nat_lt j i))
  where
    same : length (rows_of_answers levels (take i answers)) ≡ length (rows_of_answers levels (take j answers))
    same = sym (ap length si.loaded) ∙ ap length sj.loaded

    from : (nat_lt i j ≡ true) ⊎ (nat_lt i j ≡ false) → (nat_lt j i ≡ true) ⊎ (nat_lt j i ≡ false) → i ≡ j
    from (inl a) b = absurd (omega (arith, same, rows_len-lt levels answers i j (ltb-true i j a) lj))
    from (inr a) (inl b) = absurd (omega (arith, same, rows_len-lt levels answers j i (ltb-true j i b) li))
    from (inr a) (inr b) = let p : j ≤ i = ltb-false i j a in let q : i ≤ j = ltb-false j i b in omega arith

-- ---- bringing a dictionary up

-- the state where the rows that are lacking begin to be added
pub record Begun (levels : List ℕ) (answers : List Answer) (old start : DictionaryView) (held : ℕ) : Type 0 where
  pub most : held ≤ length answers
  pub stands : StandsFor levels (take held answers) start
  pub room : KeepsRoom old start
  pub warm : (k : ℕ) → k ≤ length answers → StandsFor levels (take k answers) old → (k ≡ held) × (start.loads ≡ old.loads) × (start.added ≡ old.added)
  pub cold : ((k : ℕ) → k ≤ length answers → ¬ StandsFor levels (take k answers) old) → (held ≡ 0) × (start.loads ≡ next_count old.loads) × (start.added ≡ old.added)

pub begun_warm : (levels : List ℕ) (answers : List Answer) (old : DictionaryView) (held : ℕ) → held ≤ length answers → StandsFor levels (take held answers) old → Begun levels answers old old held
begun_warm levels answers old held le stands = record {
  most = le;
  stands = stands;
  room = record { columns = refl; rows = refl };
  warm = λ k l s. (one_standing levels answers old k held l le s stands, refl, refl);
  cold = λ none. absurd (none held le stands);
}

pub begun_cold : (levels : List ℕ) (answers : List Answer) (old : DictionaryView) (columns : ℕ) → columns ≡ increments levels
    → ((k : ℕ) → k ≤ length answers → ¬ StandsFor levels (take k answers) old)
    → Begun levels answers old (empty_dictionary columns old.room_columns old.room_rows (next_count old.loads) old.added) 0
begun_cold levels answers old columns e none = record {
  most = omega arith;
  stands = record { columns = e; loaded = refl };
  room = record { columns = refl; rows = refl };
  warm = λ k l s. absurd (none k l s);
  cold = λ n. (refl, refl, refl);
}

-- and while they are
pub record BroughtSoFar (levels : List ℕ) (answers : List Answer) (start now : DictionaryView) (held at : ℕ) : Type 0 where
  pub stands : StandsFor levels (take at answers) now
  pub room : KeepsRoom start now
  pub loads : now.loads ≡ start.loads
  pub added : RisesAtMost start.added now.added (2 * (at - held))
  pub dictionary : IsDictionary now

pub brought_more : (levels : List ℕ) (answers : List Answer) (start now new : DictionaryView) (held at : ℕ) (answer : Answer) → held ≤ at → at < length answers → get_or answers at answer ≡ answer
    → new.loaded ≡ now.loaded ++ rows_of levels answer.pair answer.side → new.columns ≡ now.columns → KeepsRoom now new → new.loads ≡ now.loads
    → RisesAtMost now.added new.added (length (rows_of levels answer.pair answer.side)) → IsDictionary new
    → BroughtSoFar levels answers start now held at → BroughtSoFar levels answers start new held (at + 1)
brought_more levels answers start now new held at answer low lt e loaded columns room loads added is so = record {
  stands = record {
    columns = columns ∙ so.stands.columns;
    loaded = loaded ∙ ap (λ (l : List LoadedRow). l ++ rows_of levels answer.pair answer.side) so.stands.loaded ∙ sym (rows_more levels answers at answer lt e);
  };
  room = record { columns = room.columns ∙ so.room.columns; rows = room.rows ∙ so.room.rows };
  loads = loads ∙ so.loads;
  added = record {
    low = let a = so.added.low in let b = added.low in omega arith;
    high = let a = so.added.high in let b = added.high in let most = rows_most levels answer.pair answer.side in omega arith;
  };
  dictionary = is;
}

pub brought_room : (levels : List ℕ) (answers : List Answer) (old start now : DictionaryView) (held at : ℕ) → at < length answers → HasRoomForRows levels answers old → KeepsRoom old start
    → BroughtSoFar levels answers start now held at → length now.loaded + 2 ≤ now.room_rows
brought_room levels answers old start now held at lt room kept so =
    omega (arith, ap length so.stands.loaded, rows_len-most levels answers at, room.rows, kept.rows, so.room.rows)

pub brought_up : (levels : List ℕ) (answers : List Answer) (old start now : DictionaryView) (held at : ℕ) → length answers ≤ at → at ≤ length answers → Begun levels answers old start held
    → BroughtSoFar levels answers start now held at
    → BringsUp levels answers 0 old now
brought_up levels answers old start now held at ge le begun so =
    let whole : at ≡ length answers = omega arith in
    record {
      stands = subst (λ (l : List Answer). StandsFor levels l now) (ap (λ (n : ℕ). take n answers) whole ∙ take_whole answers) so.stands;
      room = record { columns = so.room.columns ∙ begun.room.columns; rows = so.room.rows ∙ begun.room.rows };
      warm = λ k l s. let w = begun.warm k l s in (so.loads ∙ w.1, record { low = let a = so.added.low in omega (arith, w.2); high = let a = so.added.high in omega (arith, w.0, w.2) });
      cold = λ none. let w = begun.cold none in (so.loads ∙ w.1, record { low = let a = so.added.low in omega (arith, w.2); high = let a = so.added.high in omega (arith, w.0, w.2) });
    }

pub begun_is_warm : (levels : List ℕ) (answers : List Answer) (old start : DictionaryView) (held h : ℕ) → start ≡ old → held ≡ h → h ≤ length answers
    → StandsFor levels (take h answers) old → Begun levels answers old start held
begun_is_warm levels answers old start held h e f le stands =
    subst (λ (n : ℕ). Begun levels answers old start n) (sym f) (subst (λ (t : DictionaryView). Begun levels answers old t h) (sym e) (begun_warm levels answers old h le stands))

pub begun_is_cold : (levels : List ℕ) (answers : List Answer) (old start : DictionaryView) (held columns : ℕ)
    → start ≡ empty_dictionary columns old.room_columns old.room_rows (next_count old.loads) old.added → held ≡ 0 → columns ≡ increments levels
    → ((k : ℕ) → k ≤ length answers → ¬ StandsFor levels (take k answers) old) → Begun levels answers old start held
begun_is_cold levels answers old start held columns e f g none =
    subst (λ (n : ℕ). Begun levels answers old start n) (sym f) (subst (λ (t : DictionaryView). Begun levels answers old t 0) (sym e) (begun_cold levels answers old columns g none))

pub brought_none : (levels : List ℕ) (answers : List Answer) (old start : DictionaryView) (held : ℕ) → Begun levels answers old start held → IsDictionary start
    → BroughtSoFar levels answers start start held held
brought_none levels answers old start held begun is = record {
  stands = begun.stands;
  room = record { columns = refl; rows = refl };
  loads = refl;
  added = record { low = omega arith; high = omega arith };
  dictionary = is;
}
