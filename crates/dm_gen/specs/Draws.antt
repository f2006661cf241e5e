-- The numbers that are drawn: a state moves on at each draw, and gives a number below a limit.
use Rattle.std.specs.Prelude.{ℕ, ◌+◌, ◌*◌, ◌/◌, ◌%◌, ◌^◌, zero, suc}

-- the state after the next draw
abbrev pub next_state : ℕ → ℕ
next_state state = (state * 6364136223846793005 + 1442695040888963407) % 2 ^ 64

-- the state after so many draws, from the number at first
abbrev pub state_after : ℕ → ℕ → ℕ
state_after number zero = number
state_after number (suc draws) = next_state (state_after number draws)

-- what a state gives, without its 33 lowest bits
abbrev pub drawn_below : ℕ → ℕ → ℕ
drawn_below limit state = (state / 2 ^ 33) % limit

-- what the draw of this place gives, from 1
abbrev pub draw_at : ℕ → ℕ → ℕ → ℕ
draw_at number place limit = drawn_below limit (state_after number place)
