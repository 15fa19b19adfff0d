mod ValueLemmas
mod LaneLemmas
