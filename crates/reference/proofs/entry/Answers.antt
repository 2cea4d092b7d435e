-- The entries of the source's rows are the table of specs/, so what is read of a row is its entry.
use Rattle.reference.specs.declared.table1.TheConstants.{TABLE1}
use Rattle.reference.specs.Table1.{table1}
use Rattle.reference.specs.Basis.{entry}
use Rattle.reference.proofs.Entries.{l_entry, h_entry}
use Rattle.reference.proofs.entry.Goals as goal

pub returns-in-L-clause-value : goal.returns-in-L-clause-value
unfolding entry table1
returns-in-L-clause-value c = rw c.in-L.is (l_entry TABLE1 c.args.row)

pub returns-in-H-clause-value : goal.returns-in-H-clause-value
unfolding entry table1
returns-in-H-clause-value c = rw c.in-H.is (h_entry TABLE1 c.args.row)
