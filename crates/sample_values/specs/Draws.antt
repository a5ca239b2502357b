-- What a seed draws (Lehmer's linear congruential method, with the constants of the C standard's example), and hidden values.
use Rattle.std.specs.Prelude.{ℕ, zero, suc, ◌+◌, ◌*◌, ◌/◌, ◌%◌, ◌^◌, List, map, ℤ, pos}
use Rattle.std.specs.List.{range_with_len}

-- the state of the generator after one more draw
abbrev pub next_state : ℕ → ℕ
next_state state = (1103515245 * state + 12345) % 2 ^ 31

-- the number that a state shows
abbrev pub drawn : ℕ → ℕ
drawn state = state / 2 ^ 16 % 1000

-- the state after a number of draws
abbrev pub state_after : ℕ → ℕ → ℕ
state_after seed zero = seed
state_after seed (suc count) = next_state (state_after seed count)

-- 1 plus the draw of that number
abbrev pub hidden_value : ℕ → ℕ → ℤ
hidden_value seed number = pos (1 + drawn (state_after seed number))

-- the hidden values of so many increments, in order
abbrev pub hidden_vector : ℕ → ℕ → List ℤ
hidden_vector seed count = map (hidden_value seed) (range_with_len 1 count)
