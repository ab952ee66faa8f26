-- When a machine reads a language. The language is the texts `page d` of all good d, and `shows d` is what the text says of d.
use Rattle.std.specs.Prelude.{ℕ, List, [], ◌++◌, Bool, true, ◌≡◌}
use Rattle.lines.specs.Lines.{Line, is_line, every, lines_of, rest_of, joined}
use Rattle.lines.specs.Machine.{Machine, next, after}

module _ {D : Type 0} (good : D → Bool) (page : D → List ℕ) where
  -- these lines begin a good page
  pub record Extends (ls : List Line) : Type 0 where
    pub made : D
    pub is_good_holds : good made ≡ true
    pub rest : List ℕ
    pub goes : page made ≡ joined ls ++ rest

module _ {D W : Type 0} (good : D → Bool) (page : D → List ℕ) (shows : D → W) where
  -- these lines are a good page, and it shows v
  pub record Closes (ls : List Line) (v : W) : Type 0 where
    pub made : D
    pub is_good_holds : good made ≡ true
    pub is_page : page made ≡ joined ls
    pub is_shown : shows made ≡ v

  module _ {S : Type 0} (m : Machine W S Line) where
    -- the page of d is nothing but lines. The machine takes them, may end there, and has built what d shows
    pub record Takes (d : D) : Type 0 where
      pub ends : rest_of (page d) ≡ []
      pub state : S
      pub reaches : after m m.start (lines_of (page d)) ≡ next state
      pub is_final : m.final state ≡ true
      pub is_built : m.built state ≡ shows d

    -- it takes every good page, it takes only lines that begin a good page, and it ends only at a good page
    pub record Reads : Type 0 where
      pub takes : (d : D) → good d ≡ true → Takes d
      pub extends : (ls : List Line) (s : S) → every is_line ls ≡ true → after m m.start ls ≡ next s → Extends good page ls
      pub closes : (ls : List Line) (s : S) → every is_line ls ≡ true → after m m.start ls ≡ next s → m.final s ≡ true
          → Closes ls (m.built s)
