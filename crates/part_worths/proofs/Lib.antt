mod Ranks
mod ShareLaws
mod ValueLaws
