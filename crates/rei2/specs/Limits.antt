-- What a host must lend, by the limits of the desk and of the list.
use Rattle.desk.specs.Limits.{seat_count, most_cells, cell_size, store_size}
use Rattle.desk.specs.Tally.{letter_count, status_count}
use Rattle.listing.specs.Listing.{most_input}
use Rattle.listing.specs.Sizes.{longest_list}
use Rattle.rei2.specs.declared.limits.LimitsAnswer.{LimitsAnswer}

-- a mark for each cell
abbrev pub limits : LimitsAnswer
limits = record { seats = seat_count; cells = store_size; marks = most_cells; cell_size = cell_size; letters = letter_count; statuses = status_count; most_input = most_input; longest_list = longest_list }
