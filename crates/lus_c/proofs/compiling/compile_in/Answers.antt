use Rattle.lus_c.proofs.compiling.compile_in.Goals as goal

pub returns-in-Err-clause-accepted : goal.returns-in-Err-clause-accepted
returns-in-Err-clause-accepted c = λ e. absurd (c.write_why.ensures.never e)

pub returns-in-Err-clause-refused : goal.returns-in-Err-clause-refused
returns-in-Err-clause-refused c = λ e. c.in-Err.ensures.refused (c.write_why.ensures.why e)

pub returns-in-Err-clause-told : goal.returns-in-Err-clause-told
returns-in-Err-clause-told c = λ e. record { refusal = _; first = c.in-Err.ensures.first (c.write_why.ensures.why e); written = c.write_why.ensures.written e }
