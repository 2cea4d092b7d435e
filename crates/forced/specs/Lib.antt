-- What the definitions force of three pairs, with no program in it: of any right answer, and of any sheet of which demand 3 holds.
pub mod ForcedAnswers
pub mod Forced
