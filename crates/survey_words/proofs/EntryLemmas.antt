-- The value of an id in what was found, and in its rows.
use Rattle.std.proofs.Common.{◌≡◌, Bool, true, false, List, [], ◌∷◌, Some, refl, map, find, slice_get, option_map, option_and_then, if◌then◌else◌, Bor}
use Rattle.std.specs.Str.{bytes_eq}
use Rattle.clap.specs.Walk.{Text, first_of, row_of}
use Rattle.clap.specs.Facts.{Entry}
use Rattle.clap.specs.declared.parser.matches.MatchedArg.{MatchedArg}

first_text : (texts : List (Bor Text)) → option_map (λ (s : Bor Text). s.now) (slice_get texts 0) ≡ slice_get (map (λ (s : Bor Text). s.now) texts) 0
first_text [] = refl
first_text (text ∷ texts) = refl

pub value_in_row : (entries : List Entry) (id : Text)
    → option_and_then (λ (a : MatchedArg). option_map (λ (s : Bor Text). s.now) (slice_get a.vals.items 0)) (option_map (λ (e : Entry). e.1) (find (λ (e : Entry). bytes_eq e.0.now id) entries))
    ≡ first_of id (map row_of entries)
value_in_row [] id = refl
value_in_row (e ∷ entries) id = go (bytes_eq e.0.now id) (value_in_row entries id)
  where
    go : (b : Bool)
        → option_and_then (λ (a : MatchedArg). option_map (λ (s : Bor Text). s.now) (slice_get a.vals.items 0)) (option_map (λ (x : Entry). x.1) (find (λ (x : Entry). bytes_eq x.0.now id) entries))
        ≡ first_of id (map row_of entries)
        → option_and_then (λ (a : MatchedArg). option_map (λ (s : Bor Text). s.now) (slice_get a.vals.items 0))
        (option_map (λ (x : Entry). x.1) (if b then Some e else find (λ (x : Entry). bytes_eq x.0.now id) entries))
        ≡ option_and_then (λ r. slice_get r.values 0) (if b then Some (row_of e) else find (λ r. bytes_eq r.id id) (map row_of entries))
    go true rest = first_text e.1.vals.items
    go false rest = rest
