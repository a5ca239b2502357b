-- What the words after the program's name ask for.
use Rattle.std.specs.Prelude.{ℕ, ◌≤◌, List, [], ◌∷◌, codes, bytes_eq, Option, Some, None, is_some, ◌||◌, if◌then◌else◌}
use Rattle.text_fields.specs.Reading.{◌>>=◌}
use Rattle.survey_words.specs.declared.limits.TheConstants.{DEFAULT_ELIMINATORS, MAX_ELIMINATORS, MAX_CONNECTIONS, MAX_SEED, MAX_PORT}
use Rattle.survey_words.specs.declared.commands.Command.{Command}
use Rattle.survey_words.specs.declared.commands.Command.TheVariants.{Check, Migrate, Rank, Sample, Run, RunSample, Serve}
use Rattle.survey_words.specs.Numbers.{number_within}
use Rattle.survey_words.specs.Shapes.{IsShape, shape_of}
use Rattle.survey_words.specs.Items.{OptionTexts, options_of}

-- the value of an option, or its default where it isn't given
abbrev pub number_or : ℕ → ℕ → ℕ → Option (List ℕ) → Option ℕ
number_or default least most None = Some default
number_or default least most (Some word) = number_within least most word

-- the seed that a word is
abbrev pub seed_of : List ℕ → Option ℕ
seed_of word = number_within 0 MAX_SEED word

-- how many eliminators an option asks for
abbrev pub eliminators_of : Option (List ℕ) → Option ℕ
eliminators_of value = number_or DEFAULT_ELIMINATORS 0 MAX_ELIMINATORS value

-- a command of one word
abbrev pub alone : Command → List (List ℕ) → Option Command
alone command [] = Some command
alone command (word ∷ words) = None

-- `sample`, then a seed and a shape
abbrev pub sample_of : List (List ℕ) → Option Command
sample_of (seed ∷ shape ∷ []) = seed_of seed >>= λ seed. shape_of shape >>= λ shape. Some (Sample seed shape)
sample_of _ = None

-- `run` of a script, or of a sample where a seed and a shape are given
abbrev pub run_with : ℕ → Option (List ℕ) → Option (List ℕ) → Option Command
run_with eliminators None None = Some (Run eliminators)
run_with eliminators (Some seed) (Some shape) =
    seed_of seed >>= λ seed. shape_of shape >>= λ shape. Some (RunSample seed shape eliminators)
run_with eliminators _ _ = None

-- `run` with these options
abbrev pub run_of : OptionTexts → Option Command
run_of options =
    if is_some options.port || is_some options.connections then None
    else (eliminators_of options.eliminators >>= λ eliminators. run_with eliminators options.sample options.shape)

-- `serve` at a port, with these options
abbrev pub serve_of : OptionTexts → Option Command
serve_of options =
    if is_some options.sample || is_some options.shape then None
    else (options.port >>= number_within 1 MAX_PORT >>= λ port. eliminators_of options.eliminators >>= λ eliminators.
    number_or MAX_CONNECTIONS 1 MAX_CONNECTIONS options.connections >>= λ connections. Some (Serve port eliminators connections))

-- the command of this name, with these words after it
abbrev pub command_named : List ℕ → List (List ℕ) → Option Command
command_named name words =
    if bytes_eq name (codes "check") then alone Check words else
    if bytes_eq name (codes "migrate") then alone Migrate words else
    if bytes_eq name (codes "rank") then alone Rank words else
    if bytes_eq name (codes "sample") then sample_of words else
    if bytes_eq name (codes "run") then (options_of words >>= run_of) else
    if bytes_eq name (codes "serve") then (options_of words >>= serve_of) else
    None

-- the command that the words name
abbrev pub words_of : List (List ℕ) → Option Command
words_of [] = None
words_of (name ∷ words) = command_named name words

-- the numbers of the command are within the limits
abbrev pub IsWithin : Command → Type 0
IsWithin (Sample seed shape) = (seed ≤ MAX_SEED) × IsShape shape
IsWithin (Run eliminators) = eliminators ≤ MAX_ELIMINATORS
IsWithin (RunSample seed shape eliminators) = (seed ≤ MAX_SEED) × IsShape shape × (eliminators ≤ MAX_ELIMINATORS)
IsWithin (Serve port eliminators connections) =
    (1 ≤ port) × (port ≤ MAX_PORT) × (eliminators ≤ MAX_ELIMINATORS) × (1 ≤ connections) × (connections ≤ MAX_CONNECTIONS)
IsWithin _ = Unit {0}
