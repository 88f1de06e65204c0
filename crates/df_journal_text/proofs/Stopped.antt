-- Where a literal wasn't read: without memory, or because reading stopped.
use Rattle.df_journal_text.proofs.Names.{◌≡◌, ℕ, List, drop, Err, Stop, Bad, Low, Read, Fails, Fault, line_fault, LineFault}
use Rattle.df_value_text.specs.declared.refused.Fault.TheVariants as literal
use Rattle.df_journal_text.specs.declared.line_fault.LineFault.TheVariants as fault

pub on_fault : {X : Type 0} (Told : LineFault → Type 0) (bytes : List ℕ) (read : Read ℕ X) (e : Fault) → Fails bytes e read → Told fault.NoMemory
    → ((stop : Stop ℕ) → read ≡ Err stop → Told fault.Syntax) → Told (line_fault e)
on_fault Told bytes read literal.NoMemory h none stopped = none
on_fault Told bytes read (literal.Bad place) h none stopped = stopped (Bad (drop place bytes)) h.1
on_fault Told bytes read (literal.Low place) h none stopped = stopped (Low (drop place bytes)) h.1
