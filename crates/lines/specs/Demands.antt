-- What is demanded of a machine over lines: it says what a good page shows. Of any other text it names the first line n for which no good page
-- begins with lines 1 to n of the text.
use Rattle.std.specs.Prelude.{ℕ, ◌≤◌, ◌<◌, List, Bool, true, ◌≡◌, ◌↔◌}
use Rattle.digits.specs.Once.{Once}
use Rattle.lines.specs.Lines.{Line, Begins}
use Rattle.lines.specs.Machine.{Machine, gives, wrong, verdict, first_refused}

module _ {D : Type 0} (good : D → Bool) (page : D → List ℕ) where
  -- t is a good page
  abbrev pub SomePage : List ℕ → Type 0
  SomePage t = (d : D) × (good d ≡ true) × (page d ≡ t)

  -- a good page begins with the first n lines of t
  abbrev pub SomeBegins : ℕ → List ℕ → Type 0
  SomeBegins n t = (d : D) × (good d ≡ true) × Begins n t (page d)

  -- n is the least number from 1 on for which no good page begins with the first n lines of t
  pub record FirstLine (t : List ℕ) (n : ℕ) : Type 0 where
    pub from_one : 1 ≤ n
    pub none_here : SomeBegins n t → ⊥
    pub some_before : (k : ℕ) → k < n → SomeBegins k t

  abbrev pub FirstLineIsOne : Type 0
  FirstLineIsOne = (t : List ℕ) → Once (FirstLine t)

module _ {D W : Type 0} (good : D → Bool) (page : D → List ℕ) (shows : D → W) where
  -- t is a good page, and it shows v
  abbrev pub PageShows : List ℕ → W → Type 0
  PageShows t v = (d : D) × (good d ≡ true) × (page d ≡ t) × (shows d ≡ v)

  module _ {S : Type 0} (m : Machine W S Line) where
    pub record ReadsPages : Type 0 where
      pub page_read : (t : List ℕ) (v : W) → (verdict m t ≡ gives v) ↔ PageShows t v
      pub line_named : (t : List ℕ) (n : ℕ) → (verdict m t ≡ wrong n) ↔ ((SomePage good page t → ⊥) × FirstLine good page t n)
      pub refuses_none : (t : List ℕ) → (first_refused m t ≡ 0) ↔ SomePage good page t
      -- no good page begins with more lines either
      pub none_later : (t : List ℕ) (n k : ℕ) → FirstLine good page t n → n ≤ k → SomeBegins good page k t → ⊥
      -- good pages of the same text show the same
      pub one_each : (d e : D) → good d ≡ true → good e ≡ true → page d ≡ page e → shows d ≡ shows e
