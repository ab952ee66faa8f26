-- Only one outcome meets the promise of each call: the answer and the output of writing, the answer of the check, and the answer and the whole memory after reading.
use Rattle.std.specs.Prelude.{ℕ, List, Result}
use Rattle.digits.specs.Once.{Once}
use Rattle.desk.specs.Memory.{Memory}
use Rattle.page.specs.declared.write.WriteRefusal.{WriteRefusal}
use Rattle.page.specs.declared.read.ReadRefusal.{ReadRefusal}
use Rattle.page.specs.Version.{one}
use Rattle.page.specs.Writing.{PageWritten}
use Rattle.page.specs.Reading.{read_told, PageChecked, PageRead}

pub record OneOutcome : Type 0 where
  pub write_page : (m : Memory) (out : List ℕ) → Once (λ (o : Result ℕ WriteRefusal × List ℕ). PageWritten one m out o.0 o.1)
  pub check_page : (text : List ℕ) → Once (PageChecked one text)
  pub read_page : (m : Memory) (text : List ℕ) → Once (λ (o : Result (Unit {0}) ReadRefusal × Memory). PageRead one m text (read_told o.0) o.1)
