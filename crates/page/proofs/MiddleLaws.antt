-- A cell of a desk and its middle: the middle has 49 bytes, none of them ends a line, and with lead byte and CR it is the cell again. Assumes nothing.
use Rattle.std.proofs.Common.{◌≡◌, ℕ, ◌<◌, true, not, leb, List, [], ◌∷◌, length, sym, refl, ap, ◌∙◌, arith, length-append, take_at, ne_eqb, leb-true}
use mathlib.Core.Bool.{false≢true}
use Rattle.digits.specs.Told.{Told, gives, refuses}
use Rattle.digits.proofs.Tests.{and_true, and_l, and_r}
use Rattle.text.specs.Lines.{LF}
use Rattle.lines.specs.Lines.{every}
use Rattle.frames.specs.declared.reply.ReplyLabel.{ReplyLabel}
use Rattle.frames.specs.Rules.{between, is_raw}
use Rattle.frames.specs.Kind.{CR}
use Rattle.finder.specs.Demands.{every as all}
use Rattle.finder.proofs.Taken.{Printable, reply_printable}
use Rattle.desk.specs.declared.key.Key.{Key}
use Rattle.desk.specs.Limits.{cell_size}
use Rattle.desk.specs.Key.{seat_key}
use Rattle.desk.specs.Hearing.{heard, has_key}
use Rattle.desk.specs.Seats.{seat_at}
use Rattle.desk.specs.Memory.{Memory, cell_at, mark_at}
use Rattle.desk.proofs.HearingLaws.{heard_long, heard_reply}
use Rattle.desk.proofs.TallyLaws.{Listed, reply_listed}
use Rattle.desk.proofs.ReplayLaws.{Facts, cell_keyed_law}
use Rattle.page.specs.Version.{within}
use Rattle.page.specs.Page.{middle}
use Rattle.page.specs.inside.Tokens.{middle_size}
use Rattle.page.specs.inside.Machine.{framed}

-- ---- a well formed reply

record Good (f : List ℕ) : Type 0 where
  long : length f ≡ cell_size
  shown : Printable 18 f
  listed : Listed f

heard_good : (f : List ℕ) (k : Key) (got : Told ReplyLabel) → heard f ≡ got → has_key k got ≡ true → Good f
heard_good f k (gives l) e h =
    let r = heard_reply f l e in
    record { long = heard_long f l e; shown = reply_printable f r.0 r.1.0; listed = reply_listed f r.0 r.1.0 }
heard_good f k (refuses why) e h = absurd (false≢true h)

-- printed bytes do not end a line
pub raw_within : (l : List ℕ) → all is_raw l ≡ true → every within l ≡ true
unfolding is_raw between
raw_within [] e = refl
raw_within (b ∷ l) e =
    let h = leb-true 32 b (and_l (leb 32 b) (leb b 126) (and_l (is_raw b) (all is_raw l) e)) in
    and_true (ap not (ne_eqb b LF (λ q. omega arith))) (raw_within l (and_r (is_raw b) (all is_raw l) e))

module _ (f : List ℕ) (g : Good f) where
  inner_long : length g.shown.inner ≡ middle_size
  inner_long =
      let n = length-append g.shown.inner (CR ∷ []) in
      let e = ap length g.shown.is in
      let l = g.long in
      omega (arith, n, e, l)

  middle_is : middle f ≡ g.shown.inner
  middle_is = ap middle g.shown.is ∙ take_at g.shown.inner (CR ∷ []) middle_size inner_long

-- ---- a cell of a desk

module _ (d : Memory) (facts : Facts d) (j : ℕ) (l : j < d.count) where
  cell_good : Good (cell_at d.cells j)
  cell_good = heard_good (cell_at d.cells j) (seat_key (seat_at d.row (mark_at d.marks j))) (heard (cell_at d.cells j)) refl (cell_keyed_law d facts j l)

  -- its letter and its status have a place in the tally
  pub cell_listed : Listed (cell_at d.cells j)
  cell_listed = cell_good.listed

  pub cell_long : length (cell_at d.cells j) ≡ cell_size
  cell_long = cell_good.long

  pub framed_cell : framed (middle (cell_at d.cells j)) ≡ cell_at d.cells j
  framed_cell = ap framed (middle_is _ cell_good) ∙ sym cell_good.shown.is

  pub middle_within : every within (middle (cell_at d.cells j)) ≡ true
  middle_within = ap (every within) (middle_is _ cell_good) ∙ raw_within cell_good.shown.inner cell_good.shown.raw

  pub middle_long : length (middle (cell_at d.cells j)) ≡ 49
  middle_long = ap length (middle_is _ cell_good) ∙ inner_long _ cell_good
