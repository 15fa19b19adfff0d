mod WordLemmas
mod CallLemmas
