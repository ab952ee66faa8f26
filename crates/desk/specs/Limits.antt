-- How many seats a desk has, how many cells it uses at most, how many bytes a cell has, and how many all cells have.
use Rattle.std.specs.Prelude.{ℕ, ◌*◌}
use Rattle.frames.specs.Reply.{reply}

abbrev pub seat_count : ℕ
seat_count = 16

abbrev pub most_cells : ℕ
most_cells = 256

-- a reply fills a cell
abbrev pub cell_size : ℕ
cell_size = reply.size

abbrev pub store_size : ℕ
store_size = most_cells * cell_size
