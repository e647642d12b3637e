mod Examples
mod UnitExamples
