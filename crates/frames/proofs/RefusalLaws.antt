-- No two refusals of a reader mean the same. Assumes nothing.
use mathlib.Core.Bool.{cond}
use mathlib.Core.Path.{◌≡◌, refl, sym, ap, ◌∙◌}
use lib.Dec.{eqb}
use Rattle.digits.specs.declared.refusal.Refusal.{Refusal}
use Rattle.digits.specs.Refusals.{KIND, LENGTH, END, ADDRESS}
use Rattle.frames.specs.declared.refusals.ReadRefusal.{ReadRefusal}
use Rattle.frames.specs.declared.refusals.ReadRefusal.TheVariants.{Kind as kind, Length, End, Address, Field}
use Rattle.frames.specs.Refusals.{read_refused}

-- the reader's refusal that means this
abbrev pub read_back : Refusal → ReadRefusal
read_back f =
    cond (eqb f.number KIND.number) kind (cond (eqb f.number LENGTH.number) Length (cond (eqb f.number END.number) End
    (cond (eqb f.number ADDRESS.number) Address (Field (record { field = f.offset; spoiled = f.spoiled })))))

pub read_back_law : (g : ReadRefusal) → read_back (read_refused g) ≡ g
read_back_law kind = refl
read_back_law Length = refl
read_back_law End = refl
read_back_law Address = refl
read_back_law (Field p) = refl

pub same_read_refusal : (f g : ReadRefusal) → read_refused f ≡ read_refused g → f ≡ g
same_read_refusal f g e = sym (read_back_law f) ∙ ap read_back e ∙ read_back_law g
