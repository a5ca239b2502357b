-- The options and the plain word that stand in the words after a command.
use Rattle.std.specs.Prelude.{ℕ, ◌==◌, ◌||◌, Bool, true, false, not, List, [], ◌∷◌, codes, bytes_eq, Option, Some, None, option_map, if◌then◌else◌}
use Rattle.std.specs.List.{list_all}
use Rattle.text_fields.specs.Reading.{◌>>=◌, read_word}

-- an option's name, which is empty for a plain word, and the value
abbrev pub Item : Type 0
Item = List ℕ × List ℕ

-- the word begins with a hyphen
abbrev pub is_hyphened : List ℕ → Bool
is_hyphened [] = false
is_hyphened (first ∷ word) = first == 45

-- nothing or `=` comes next
abbrev pub ends_name : Option (Unit {0} × List ℕ) → Bool
ends_name None = false
ends_name (Some (read, [])) = true
ends_name (Some (read, byte ∷ text)) = byte == 61

-- the word is this name, or begins with it and `=`
abbrev pub has_name : List ℕ → List ℕ → Bool
has_name word name = ends_name (read_word name word)

-- the word is plain, or an option by its whole name
abbrev pub is_spelled : List ℕ → Bool
is_spelled word = not (is_hyphened word)
    || (has_name word (codes "--eliminators")
    || (has_name word (codes "--connections") || (has_name word (codes "--sample") || has_name word (codes "--shape"))))

-- what stands before and after the first `=`
abbrev pub cut : List ℕ → Option (List ℕ × List ℕ)
cut [] = None
cut (byte ∷ text) = if byte == 61 then Some ([], text) else option_map (λ parts. (byte ∷ parts.0, parts.1)) (cut text)

-- the item that a word is by itself: a plain word, or an option with its value
abbrev pub item_of : List ℕ → Option Item
item_of word = if is_hyphened word then cut word else Some ([], word)

-- an item and those after it, or what comes of a word that is none by itself
abbrev pub item_then : Option Item → Option (List Item) → Option (List Item) → Option (List Item)
item_then (Some item) items other = option_map (λ items. item ∷ items) items
item_then None items other = other

-- the items of these words, of which the first is the value of the option that waits for one; none where an option has no
-- value, or one that begins with a hyphen
abbrev pub items_after : Option (List ℕ) → List (List ℕ) → Option (List Item)
items_after None [] = Some []
items_after (Some name) [] = None
items_after (Some name) (word ∷ words) =
    if is_hyphened word then None else option_map (λ items. (name, word) ∷ items) (items_after None words)
items_after None (word ∷ words) = item_then (item_of word) (items_after None words) (items_after (Some word) words)

-- the value of each option, and the plain word
pub record OptionTexts : Type 0 where
  pub port : Option (List ℕ)
  pub eliminators : Option (List ℕ)
  pub connections : Option (List ℕ)
  pub sample : Option (List ℕ)
  pub shape : Option (List ℕ)

-- no option and no plain word
abbrev pub no_options : OptionTexts
no_options = record { port = None; eliminators = None; connections = None; sample = None; shape = None }

-- the options with a value more, where there was none before
abbrev pub where_first : Option (List ℕ) → OptionTexts → Option OptionTexts
where_first None now = Some now
where_first (Some value) now = None

-- the options with one more item; none where its option has a value, or there is no such option
abbrev pub with_item : Item → OptionTexts → Option OptionTexts
with_item item options =
    if bytes_eq item.0 (codes "") then where_first options.port (record options { port = Some item.1 }) else
    if bytes_eq item.0 (codes "--eliminators") then where_first options.eliminators (record options { eliminators = Some item.1 }) else
    if bytes_eq item.0 (codes "--connections") then where_first options.connections (record options { connections = Some item.1 }) else
    if bytes_eq item.0 (codes "--sample") then where_first options.sample (record options { sample = Some item.1 }) else
    if bytes_eq item.0 (codes "--shape") then where_first options.shape (record options { shape = Some item.1 }) else
    None

-- the options with all of these items
abbrev pub with_items : List Item → OptionTexts → Option OptionTexts
with_items [] options = Some options
with_items (item ∷ items) options = with_item item options >>= with_items items

-- the options to which these words add, after an option that waits for its value
abbrev pub options_after : Option (List ℕ) → OptionTexts → List (List ℕ) → Option OptionTexts
options_after waiting options words = items_after waiting words >>= λ items. with_items items options

-- the options in these words, each of which stands at most once
abbrev pub options_of : List (List ℕ) → Option OptionTexts
options_of words = if list_all is_spelled words then options_after None no_options words else None
